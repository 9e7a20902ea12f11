use Rattle.vs_generate.proofs.Summing.{summed}
use Rattle.vs_generate.proofs.summary.Goals as goal

pub returns : goal.returns
returns c =
    summed c.args.seed c.args.members c.args.dim c.in_ok-links.links c.in_ok-store.store c.facts.new.store c.links_of_all.new.store c.nearest_first.new.store c.in_ok-facts.facts _ _ c.summary_text.result
    c.in_ok-store.ensures c.in_ok-facts.ensures.same c.in_ok-links.ensures.same c.in_ok-truth.ensures.same c.in_ok-facts.ensures.facts c.in_ok-links.ensures.links c.in_ok-truth.ensures.found c.in_ok-beam.ensures.found
    c.summary_text.ensures
