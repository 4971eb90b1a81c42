use Rattle.std.proofs.Common.{◌≡◌, List, All, length, ap, sym, subst, ◌∙◌, arith}
use Rattle.std.specs.List.{list_any}
use Rattle.std.proofs.lemmas.List.{with_items_is, length_push}
use Rattle.std.proofs.lemmas.List.Elements.{All-same}
use Rattle.job_moments.specs.declared.met.Met.{Met}
use Rattle.job_moments.specs.Counting.{was_met, HasCounted}
use Rattle.job_moments.specs.Moments.{starts_by}
use Rattle.job_moments.proofs.Counters.{met_more}
use Rattle.job_moments.proofs.counts.Counts.meet.Goals as goal

pub invariant_of-self : goal.invariant_of-self
invariant_of-self c =
    let made = c.self.inside.made in
    let counters = c.self.inside.counters in
    let long : length c.count.new.counters ≡ counters.len = omega (arith, c.count.auto.counters, c.deref_mut.ensures.len) in
    let counted = c.count.ensures.counted made
    (All-same (HasCounted made) c.deref_mut.result.now counters.items c.deref_mut.ensures.value c.self.invariant.counters) in
    record {
      counters = All-same (HasCounted c.put_behind.result) _ c.count.new.counters (with_items_is counters c.count.new.counters long)
          (subst (λ (ms : List Met). All (HasCounted ms) c.count.new.counters) (sym c.put_behind.ensures) counted);
      number = omega (arith, c.self.invariant.number, ap length c.put_behind.ensures, length_push made c.args.met.now);
      latest = λ ticks.
          met_more made c.args.met.now ticks (was_met c.self.inside.latest ticks) _ (c.self.invariant.latest ticks) (c.latest_of-self-inside.ensures ticks)
          ∙ ap (list_any (starts_by ticks)) (sym c.put_behind.ensures);
    }
