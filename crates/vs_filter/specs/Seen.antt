-- What the types of this crate stand for.
use Rattle.std.specs.Prelude.{◌==◌, ℕ, Bool, true, false, cond, List, map, Option, Some, None, option_map}
use denote.Ref.{Bor}
use Rattle.vs_defs.specs.Bytes.{Bytes}
use Rattle.vs_defs.specs.Filter as filter
use Rattle.vs_defs.specs.FilterText as text
use Rattle.vs_filter.specs.declared.operator.Operator.{Operator}
use Rattle.vs_filter.specs.declared.operator.Operator.TheVariants.{Or, And, Equal, NotEqual, Less, LessEqual, Greater, GreaterEqual, In, Add, Subtract, Multiply, Divide, Remainder}
use Rattle.vs_filter.specs.declared.token.Token.{Token}
use Rattle.vs_filter.specs.declared.token.Token.TheVariants.{Open, Close, OpenList, CloseList, Comma, Minus, Not, Between, Numeral, Quoted, Truth, Selector, Bad, End}
use Rattle.vs_filter.specs.declared.token.Placed.{Placed}

abbrev pub operator_seen : Operator → filter.Operator
operator_seen Or = filter.Or
operator_seen And = filter.And
operator_seen Equal = filter.Equal
operator_seen NotEqual = filter.NotEqual
operator_seen Less = filter.Less
operator_seen LessEqual = filter.LessEqual
operator_seen Greater = filter.Greater
operator_seen GreaterEqual = filter.GreaterEqual
operator_seen In = filter.In
operator_seen Add = filter.Add
operator_seen Subtract = filter.Subtract
operator_seen Multiply = filter.Multiply
operator_seen Divide = filter.Divide
operator_seen Remainder = filter.Remainder

abbrev pub token_seen : Token → text.Token
token_seen Open = text.Open
token_seen Close = text.Close
token_seen OpenList = text.OpenList
token_seen CloseList = text.CloseList
token_seen Comma = text.Comma
token_seen Minus = text.Minus
token_seen Not = text.Not
token_seen (Between op) = text.Between (operator_seen op)
token_seen (Numeral bytes) = text.Numeral bytes.now
token_seen (Quoted bytes) = text.Quoted bytes
token_seen (Truth b) = text.Truth b
token_seen (Selector name) = text.Selector name.now
token_seen Bad = text.Bad
token_seen End = text.End

abbrev pub tokens_seen : List Placed → text.Tokens
tokens_seen tokens = map (λ p. (p.at, token_seen p.token)) tokens

abbrev pub quoted_seen : Option (Bytes × Bor Bytes) → Option (Bytes × Bytes)
quoted_seen q = option_map (λ p. (p.0, p.1.now)) q

abbrev pub front_seen : Token × Bor Bytes → text.Front
front_seen front = (token_seen front.0, front.1.now)

-- the token that comes next
abbrev pub next_seen : Option (Bor Token) → text.Token
next_seen None = text.End
next_seen (Some t) = token_seen t.now

-- the token of signs at the front of a text, which begins with c
abbrev pub sign_front : ℕ → Bytes → text.Front
sign_front c cs =
    cond (c == 33) (text.sign_token 61 (text.Between filter.NotEqual) text.Not cs)
    (cond (c == 60) (text.sign_token 61 (text.Between filter.LessEqual) (text.Between filter.Less) cs)
    (cond (c == 62) (text.sign_token 61 (text.Between filter.GreaterEqual) (text.Between filter.Greater) cs)
    (cond (c == 61) (text.sign_token 61 (text.Between filter.Equal) text.Bad cs)
    (cond (c == 38) (text.sign_token 38 (text.Between filter.And) text.Bad cs)
    (cond (c == 124) (text.sign_token 124 (text.Between filter.Or) text.Bad cs)
    (text.mark_token c, cs))))))

abbrev pub is_not : text.Token → Bool
is_not text.Not = true
is_not t = false

abbrev pub is_end : text.Token → Bool
is_end text.End = true
is_end t = false
