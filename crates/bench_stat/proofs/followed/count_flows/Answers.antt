use Rattle.std.proofs.Common.{◌≡◌, ◌∷◌, List, length, ap, sym, subst, arith}
use Rattle.std.proofs.lemmas.List.{with_items_is}
use Rattle.bench_stat.specs.declared.flows.Flow.{Flow}
use Rattle.bench_stat.specs.Entries.{AreEntries}
use Rattle.bench_stat.proofs.followed.count_flows.Goals as goal

pub returns-then-len-eq-ENTRIES : goal.returns-then-len-eq-ENTRIES
returns-then-len-eq-ENTRIES c = λ history are.
    let kept : length c.note_entries.new.entries ≡ c.args.flows.now.len = omega (arith, c.note_entries.auto.entries, ap length c.as_mut_slice.ensures.value, c.as_mut_slice.ensures.len) in
    subst (λ (fs : List Flow). AreEntries (c.args.view.now ∷ history) fs) (sym (with_items_is c.args.flows.now c.note_entries.new.entries kept))
    (c.note_entries.ensures history (subst (λ (fs : List Flow). AreEntries history fs) (sym c.as_mut_slice.ensures.value) are))
