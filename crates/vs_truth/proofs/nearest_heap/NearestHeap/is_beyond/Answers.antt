use Rattle.std.proofs.Common.{◌≡◌, ◌≤◌, false, refl, length, sym, ap, ◌∙◌, arith}
use Rattle.std.specs.Prelude.{nat_le}
use Rattle.std.proofs.lemmas.Bool.{false≢true, lt-leb}
use Rattle.vs_truth.specs.Nears.{First, near_of, is_beyond}
use Rattle.vs_truth.proofs.Order.{last_is_top, kept_long, beyond_full, beyond_room, beyond_kept}
use Rattle.vs_truth.proofs.nearest_heap.NearestHeap.is_beyond.Goals as goal

pub returns-then-len-self : goal.returns-then-len-self
returns-then-len-self c =
    let heap = c.self.inside.heap in
    let last = near_of c.in-Some.last.now in
    let worst = last_is_top heap c.in-Some.last.now (c.in-Some.ensures.variant.0 refl) c.in-Some.ensures.lookup (c.in-Some.ensures.greatest c.self.invariant.0) in
    let value = sym (beyond_full heap c.args.dist last c.self.inside.most (omega (arith, c.len.ensures)) worst) ∙ ap (λ (l : First). is_beyond l c.args.dist) c.self.view_is in
    let long = ap (λ (l : First). length l.nears) c.self.view_is in
    let most = ap (λ (l : First). l.most) c.self.view_is in
    let few : length c.args.self.now.nears ≤ c.args.self.now.most = omega (arith, long, most, kept_long heap, c.self.invariant.1) in
    record {
      value = value;
      kept = λ is near e. beyond_kept heap c.args.self.now near _ c.self.view_is refl few (ap (is_beyond c.args.self.now) e ∙ sym value ∙ is);
    }

pub returns-else-len-self : goal.returns-else-len-self
returns-else-len-self c =
    let room : nat_le c.self.inside.most c.len.result ≡ false = lt-leb c.self.inside.most c.len.result c.if-len-self.false in
    record {
      value = room ∙ sym (beyond_room c.self.inside.heap c.args.dist c.self.inside.most (omega (arith, c.len.ensures, c.if-len-self.false))) ∙ ap (λ (l : First). is_beyond l c.args.dist) c.self.view_is;
      kept = λ is. absurd (false≢true (sym room ∙ is));
    }
