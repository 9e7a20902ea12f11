-- A connection over whole messages and ends that don't fail is served whole: this follows from what is known at each end, and the cause of
-- each end that isn't Ended, Quit or NoMemory is excluded.
use Rattle.std.proofs.Common.{◌≡◌, ◌≤◌, ◌<◌, ◌^◌, ◌⊎◌, inl, inr, ℕ, Bool, true, false, List, [], ◌∷◌, ◌++◌, Option, Some, None, refl, sym, ap, subst, ◌∙◌, append_assoc, append-nil, length, length-append, arith}
use Rattle.std.specs.Prelude.{MatchBool}
use Rattle.vs_defs.specs.Bytes.{Bytes}
use Rattle.vs_defs.specs.Stream.{Message, End, Splits, EndsAs, Reading, Whole, Short, Faulty, message_at, with_words, place_in, Border, Within, Broken}
use Rattle.vs_defs.specs.Stream as stream
use Rattle.vs_defs.specs.Reply.{Outcome}
use Rattle.vs_defs.specs.History.{IsPrefix}
use Rattle.vs_defs.proofs.StreamLaws.{splits_once}
use Rattle.vs_session_defs.specs.Session.{quits, replies, closing_line, ending_by, ending_of}
use Rattle.vs_session_defs.specs.Session as session
use Rattle.vs_outside.specs.Known.{Adds, in_front, NothingLeft}
use Rattle.vs_stream.proofs.Laws.{whole_extends}
use Rattle.vs_stream.proofs.Place.{border_begins, begins_front, broken_no}
use Rattle.vs_stream.proofs.Reader.{with_words_append}
use Rattle.vs_resp.specs.Stands.{fault_of}
use Rattle.vs_connection.specs.declared.end.SessionEnd.{SessionEnd}
use Rattle.vs_connection.specs.declared.end.SessionEnd.TheVariants.{Ended, Quit, Protocol, CutShort, ReadFault, WriteFault, Spent, NoMemory}
use Rattle.vs_connection.specs.Stage.{CallOn, Serves, Finished}
use Rattle.vs_connection.specs.Point.{Point}
use Rattle.vs_connection.specs.Connection.{IsEnd}
use Rattle.vs_connection.specs.Complete.{HasWhole, IsComplete, ReadToEnd, ReadToQuit}

-- ---- the messages of a beginning are the first of the whole

abbrev rest_in : Reading Message → Bytes
rest_in (Whole m rest) = rest
rest_in Short = []
rest_in (Faulty f rest) = []

abbrev message_in : Reading Message → Message
message_in (Whole m rest) = m
message_in Short = []
message_in (Faulty f rest) = []

-- where an input ends no whole message is
no_whole : (lines : Bool) (text : Bytes) (e : End) (m : Message) (rest : Bytes) → EndsAs (message_at lines text) text e → message_at lines text ≡ Whole m rest → ⊥
no_whole lines [] e m rest h w = let two : Short ≡ Whole m rest = w in cc
no_whole lines (c ∷ cs) e m rest h w = subst (λ r. EndsAs r (c ∷ cs) e) w h

first_messages : (lines : Bool) (front more : Bytes) (ms ns : List Message) (e d : End) → Splits lines front ms e → Splits lines (front ++ more) ns d → IsPrefix ms ns
first_messages lines front more [] ns e d h k = (ns, refl)
first_messages lines front more (m ∷ ms) [] e d h k = absurd (no_whole lines (front ++ more) d m (h.0 ++ more) k (whole_extends lines front h.0 more m h.1))
first_messages lines front more (m ∷ ms) (n ∷ ns) e d h k =
    let same : Whole m (h.0 ++ more) ≡ Whole n k.0 = sym (whole_extends lines front h.0 more m h.1) ∙ k.1 in
    let i : IsPrefix ms ns = first_messages lines h.0 more ms ns e d h.2 (subst (λ (r : Bytes). Splits lines r ns d) (sym (ap rest_in same)) k.2) in
    (i.0, ap (λ (x : Message). x ∷ (ms ++ i.0)) (ap message_in same) ∙ ap (λ (l : List Message). n ∷ l) i.1)

first_worded : (answered ms ns : List Message) → IsPrefix answered (with_words ms) → IsPrefix ms ns → IsPrefix answered (with_words ns)
first_worded answered ms ns i j =
    (i.0 ++ with_words j.0, sym (append_assoc answered i.0 (with_words j.0)) ∙ ap (λ (l : List Message). l ++ with_words j.0) i.1 ∙ sym (with_words_append ms j.0) ∙ ap with_words j.1)

-- ---- what the source had

-- what was taken, and what is left
pub record Parted (input : Bytes) (left' : Option Bytes) (messages : List Message) : Type 0 where
  pub rest : Bytes
  pub is : left' ≡ Some rest
  pub few : length (input ++ rest) < 2 ^ 62
  pub whole : Splits true (input ++ rest) messages Border

parted : (input : Bytes) (left left' : Option Bytes) (messages : List Message) → left ≡ in_front input left' → HasWhole left messages → Parted input left' messages
parted input left None messages taken has = let two : None ≡ Some has.input = sym taken ∙ has.told in cc
parted input left (Some rest) messages taken has =
    let told : Some (input ++ rest) ≡ Some has.input = sym taken ∙ has.told in
    let same : has.input ≡ input ++ rest = cc in
    record {
      rest = rest;
      is = refl;
      few = subst (λ (l : Bytes). length l < 2 ^ 62) same has.few;
      whole = subst (λ (l : Bytes). Splits true l messages Border) same has.whole;
    }

-- nothing is left: all was taken
all_taken : (input : Bytes) (left' : Option Bytes) (messages : List Message) → NothingLeft left' → Parted input left' messages → (left' ≡ Some []) × Splits true input messages Border
all_taken input None messages nothing p = let two : None ≡ Some p.rest = p.is in cc
all_taken input (Some left) messages nothing p =
    let same : Some left ≡ Some p.rest = p.is in
    let empty : p.rest ≡ [] = let r : left ≡ p.rest = cc in sym r ∙ nothing in
    (ap Some nothing, subst (λ (l : Bytes). Splits true l messages Border) (append-nil input) (subst (λ (l : Bytes). Splits true (input ++ l) messages Border) empty p.whole))

-- ---- how it ended

quits_by : (input : Bytes) (os : List Outcome) (e : End) (b : Bool) → quits os ≡ b → ending_of input os e ≡ elim b [ true ↦ session.Quit | false ↦ ending_by input e ]
quits_by input os e b is = ap (λ (x : Bool). elim x [ true ↦ session.Quit | false ↦ ending_by input e ]) is

module _ {H : Type 0} (call : CallOn H) (k : ℕ) (start now : Point H) (messages : List Message) (input output : Bytes) (left' written written' : Option Bytes) (put : Adds written output written') (p : Parted input left' messages) where
  to_end : Finished call k start input output now session.Ended → NothingLeft left' → ReadToEnd call k start messages left' written written' now
  to_end f nothing = by_quits (quits f.session.outcomes) refl
    where
      by_end : (e : End) → f.session.ends ≡ e → quits f.session.outcomes ≡ false → ReadToEnd call k start messages left' written written' now
      by_end Border is no_quit =
          let all = all_taken input left' messages nothing p in
          let s : Splits true input f.session.messages Border = subst (λ (e : End). Splits true input f.session.messages e) is f.session.splits in
          let same : f.session.messages ≡ messages = (splits_once true input f.session.messages messages Border Border s all.1).0 in
          let w : (f.session.answered ≡ with_words f.session.messages) × (output ≡ replies f.session.outcomes ++ closing_line input f.session.ends) = subst
          (λ (b : Bool). MatchBool b (IsPrefix f.session.answered (with_words f.session.messages) × (output ≡ replies f.session.outcomes))
          ((f.session.answered ≡ with_words f.session.messages) × (output ≡ replies f.session.outcomes ++ closing_line input f.session.ends))) no_quit f.session.written in
          let line : output ≡ replies f.session.outcomes = w.1 ∙ ap (λ (e : End). replies f.session.outcomes ++ closing_line input e) is ∙ append-nil (replies f.session.outcomes) in
          record {
            nothing = all.0;
            replied = record {
              outcomes = f.session.outcomes;
              serves = subst (λ (ms : List Message). Serves call k start.generator start.history ms f.session.outcomes now.history now.generator) (w.0 ∙ ap with_words same) f.session.serves;
              put = subst (λ (l : Bytes). Adds written l written') line put;
            };
            no_quit = no_quit;
          }
      by_end Within is no_quit = let two : session.Ended ≡ session.CutShort = f.ending ∙ quits_by input f.session.outcomes f.session.ends false no_quit ∙ ap (ending_by input) is in cc
      by_end (Broken b rest) is no_quit = let two : session.Ended ≡ session.Protocol b (place_in input rest) = f.ending ∙ quits_by input f.session.outcomes f.session.ends false no_quit ∙ ap (ending_by input) is in cc

      by_quits : (b : Bool) → quits f.session.outcomes ≡ b → ReadToEnd call k start messages left' written written' now
      by_quits true is = let two : session.Ended ≡ session.Quit = f.ending ∙ quits_by input f.session.outcomes f.session.ends true is in cc
      by_quits false is = by_end f.session.ends refl is

  to_quit : Finished call k start input output now session.Quit → ReadToQuit call k start messages written written' now
  to_quit f = by_quits (quits f.session.outcomes) refl
    where
      ends_else : (e : End) → session.Quit ≡ ending_by input e → ⊥
      ends_else Border is = cc
      ends_else Within is = cc
      ends_else (Broken b rest) is = cc

      by_quits : (b : Bool) → quits f.session.outcomes ≡ b → ReadToQuit call k start messages written written' now
      by_quits false is = absurd (ends_else f.session.ends (f.ending ∙ quits_by input f.session.outcomes f.session.ends false is))
      by_quits true is =
          let w : IsPrefix f.session.answered (with_words f.session.messages) × (output ≡ replies f.session.outcomes) = subst
          (λ (b : Bool). MatchBool b (IsPrefix f.session.answered (with_words f.session.messages) × (output ≡ replies f.session.outcomes))
          ((f.session.answered ≡ with_words f.session.messages) × (output ≡ replies f.session.outcomes ++ closing_line input f.session.ends))) is f.session.written in
          record {
            answered = f.session.answered;
            first = first_worded f.session.answered f.session.messages messages w.0
                (first_messages true input p.rest f.session.messages messages f.session.ends Border f.session.splits p.whole);
            replied = record { outcomes = f.session.outcomes; serves = f.session.serves; put = subst (λ (l : Bytes). Adds written l written') w.1 put };
            quit = is;
          }

  -- what was taken has no fault
  no_fault : (fault : stream.Fault) (at : ℕ) → Finished call k start input output now (session.Protocol fault at) → ⊥
  no_fault fault at f = by_quits (quits f.session.outcomes) refl
    where
      by_end : (e : End) → f.session.ends ≡ e → session.Protocol fault at ≡ ending_by input e → ⊥
      by_end Border is same = cc
      by_end Within is same = cc
      by_end (Broken b rest) is same =
          broken_no true input f.session.messages b rest (subst (λ (e : End). Splits true input f.session.messages e) is f.session.splits)
          (begins_front true input p.rest (border_begins true (input ++ p.rest) messages p.whole))

      by_quits : (b : Bool) → quits f.session.outcomes ≡ b → ⊥
      by_quits true is = let two : session.Protocol fault at ≡ session.Quit = f.ending ∙ quits_by input f.session.outcomes f.session.ends true is in cc
      by_quits false is = by_end f.session.ends refl (f.ending ∙ quits_by input f.session.outcomes f.session.ends false is)

  -- nothing was cut short
  not_cut : Finished call k start input output now session.CutShort → NothingLeft left' → ⊥
  not_cut f nothing = by_quits (quits f.session.outcomes) refl
    where
      by_end : (e : End) → f.session.ends ≡ e → session.CutShort ≡ ending_by input e → ⊥
      by_end Border is same = cc
      by_end Within is same =
          let s : Splits true input f.session.messages Within = subst (λ (e : End). Splits true input f.session.messages e) is f.session.splits in
          let two : Within ≡ Border = (splits_once true input f.session.messages messages Within Border s (all_taken input left' messages nothing p).1).1 in
          cc
      by_end (Broken b rest) is same = cc

      by_quits : (b : Bool) → quits f.session.outcomes ≡ b → ⊥
      by_quits true is = let two : session.CutShort ≡ session.Quit = f.ending ∙ quits_by input f.session.outcomes f.session.ends true is in cc
      by_quits false is = by_end f.session.ends refl (f.ending ∙ quits_by input f.session.outcomes f.session.ends false is)

  by_its_end : (end : SessionEnd) → IsEnd call k end start input output now → ((end ≡ Ended) ⊎ (end ≡ CutShort) → NothingLeft left') → (end ≡ ReadFault → ⊥) → (end ≡ WriteFault → ⊥)
      → IsComplete call k start end messages left' written written' now
  by_its_end Ended is nothing read write = to_end is.0 (nothing (inl refl))
  by_its_end Quit is nothing read write = to_quit is.0
  by_its_end (Protocol fault at) is nothing read write = no_fault (fault_of fault) at is.0
  by_its_end CutShort is nothing read write = not_cut is.0 (nothing (inr refl))
  by_its_end ReadFault is nothing read write = read refl
  by_its_end WriteFault is nothing read write = write refl
  by_its_end Spent is nothing read write = let few : length (input ++ p.rest) < 2 ^ 62 = p.few in let sum = length-append input p.rest in let many : 2 ^ 62 ≤ length input = is.0 in absurd (omega (arith, few, sum, many))
  by_its_end NoMemory is nothing read write = tt

-- An end's causes are clauses of each call that serves a connection; so is what it took and wrote.
pub complete : {H : Type 0} (call : CallOn H) (k : ℕ) (start now : Point H) (end : SessionEnd) (input output : Bytes) (left left' written written' : Option Bytes) (in_faults in_faults' out_faults out_faults' : ℕ)
    → left ≡ in_front input left' → Adds written output written' → IsEnd call k end start input output now → ((end ≡ Ended) ⊎ (end ≡ CutShort) → NothingLeft left')
    → (end ≡ ReadFault → in_faults < in_faults') → (end ≡ WriteFault → out_faults < out_faults')
    → (messages : List Message) → HasWhole left messages → in_faults' ≡ in_faults → out_faults' ≡ out_faults
    → IsComplete call k start end messages left' written written' now
complete call k start now end input output left left' written written' in_faults in_faults' out_faults out_faults' taken put is nothing read write messages has in_same out_same =
    by_its_end call k start now messages input output left' written written' put (parted input left left' messages taken has) end is nothing
    (λ e. let rose = read e in omega (arith, rose, in_same)) (λ e. let rose = write e in omega (arith, rose, out_same))
