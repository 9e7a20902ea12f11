use Rattle.std.proofs.Common.{◌≡◌, ℕ, ◌≤◌, List, length, subst, sym, ap, arith}
use Rattle.vs_command.specs.Readings.{AreShort}
use Rattle.vs_defs.specs.Bytes.{Bytes}
use Rattle.vs_gen.specs.Generated.{Generating}
use Rattle.vs_generate.specs.Grown.{IsGrown}
use Rattle.vs_generate.proofs.Turns.{turned_by, ended_by, grown_next}
use Rattle.vs_generate.proofs.Words.{are_some, are_short}
use Rattle.vs_generate.proofs.building.build.Goals as goal

pub add_member-requires-clause-some : goal.add_member-requires-clause-some
add_member-requires-clause-some c =
    let old = c.loop-store.generator in
    let t = turned_by c.args.seed c.args.members c.args.dim old c.next_words.new.self c.in_ok-words.field-0 c.in-Some.words c.loop-store.invariant.vectors c.in_ok-words.ensures.next c.in-Some.is in
    subst (λ (w : List Bytes). 1 ≤ length w) (sym t.1) (are_some c.args.seed c.args.dim old.next)

pub add_member-requires-clause-short : goal.add_member-requires-clause-short
add_member-requires-clause-short c =
    let old = c.loop-store.generator in
    let t = turned_by c.args.seed c.args.members c.args.dim old c.next_words.new.self c.in_ok-words.field-0 c.in-Some.words c.loop-store.invariant.vectors c.in_ok-words.ensures.next c.in-Some.is in
    let below = t.0 in
    let fits = c.ranges.members.fits in
    subst AreShort (sym t.1) (are_short c.args.seed c.args.dim old.next (omega (arith, c.requires.1)) (omega (arith, below, fits)))

pub loop-store-smaller : goal.loop-store-smaller
loop-store-smaller c =
    let old = c.loop-store.generator in
    let new = c.next_words.new.self in
    let t = turned_by c.args.seed c.args.members c.args.dim old new c.in_ok-words.field-0 c.in-Some.words c.loop-store.invariant.vectors c.in_ok-words.ensures.next c.in-Some.is in
    let below = t.0 in
    let one_on = t.2 in
    let all : new.members ≡ c.args.members = ap (λ (x : Generating). x.members) t.3 in
    let was : old.members ≡ c.args.members = ap (λ (x : Generating). x.members) c.loop-store.invariant.vectors in
    omega (arith, below, one_on, all, was)

pub loop-store-preserved : goal.loop-store-preserved
loop-store-preserved c =
    let old = c.loop-store.generator in
    let new = c.next_words.new.self in
    let t = turned_by c.args.seed c.args.members c.args.dim old new c.in_ok-words.field-0 c.in-Some.words c.loop-store.invariant.vectors c.in_ok-words.ensures.next c.in-Some.is in
    let m = grown_next c.args.seed c.args.dim old.next new.next c.in-Some.words c.loop-store.store c.add_member.new.store c.loop-store.levels c.add_member.new.levels c.requires t.1 t.2
    c.loop-store.invariant.levels c.in_ok-add_member.ensures.drawn c.loop-store.invariant.grown c.in_ok-add_member.ensures.added in
    record { vectors = t.3; levels = m.0; grown = m.1 }

pub returns : goal.returns
returns c =
    let all = ended_by c.args.seed c.args.members c.args.dim c.loop-store.generator c.next_words.new.self c.in_ok-words.field-0 c.loop-store.invariant.vectors c.in_ok-words.ensures.next c.in_default.is in
    subst (λ (k : ℕ). IsGrown c.args.seed k c.args.dim c.loop-store.store) all c.loop-store.invariant.grown
