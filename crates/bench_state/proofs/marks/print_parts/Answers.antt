use Rattle.std.proofs.Common.{◌≡◌, ◌++◌, ◌||◌, not, true, false, ap, refl}
use Rattle.std.specs.Prelude.{codes}
use Rattle.mil_word.specs.Fields.{field_values}
use Rattle.mil_terminal.specs.declared.readers.HostConditions.{HostConditions}
use Rattle.mil_terminal.specs.Host.{takes_broadcast, set_gap}
use Rattle.mil_terminal.specs.Service.{waits_once}
use Rattle.bench_state.specs.Marks.{host_parts, part_if, gap_part, is_some_part, modes_below}
use Rattle.bench_state.proofs.Listing.{begun_next, listed_then}
use Rattle.bench_state.proofs.marks.print_parts.Goals as goal

pub returns : goal.returns
unfolding host_parts
returns g c =
    let s = c.args.terminal.now in
    let set = c.conditions_set-set.result in
    let broadcast : set.broadcast ≡ takes_broadcast s.history = ap (λ (v : HostConditions). v.broadcast) c.conditions_set-set.ensures in
    let once : set.once ≡ waits_once s.own s.history = ap (λ (v : HostConditions). v.once) c.conditions_set-set.ensures in
    let gap : set.gap ≡ set_gap s.history = ap (λ (v : HostConditions). v.gap) c.conditions_set-set.ensures in
    let off = part_if c.is_off.result (codes "power off") in
    let deaf = part_if (not set.broadcast) (codes "broadcast off") in
    let service = part_if set.once (codes "service once") in
    let wait = gap_part set.gap in
    let sent = modes_below s true field_values in
    let taken = modes_below s false field_values in
    let own = c.address-address.ensures.value in
    let e1 = c.in_ok-begun.ensures.begun in
    let e2 = c.in_ok-begun-2.ensures.begun in
    let e3 = c.in_ok-begun-3.ensures.begun in
    let e4 = c.in_ok-begun-4.ensures.begun in
    let e5 = c.in_ok-begun-5.ensures.begun in
    let b1 = c.in_ok-begun.begun in
    let b2 = c.in_ok-begun-2.begun in
    let b3 = c.in_ok-begun-3.begun in
    let b4 = c.in_ok-begun-4.begun in
    let b5 = c.in_ok-begun-5.begun in
    let next = b5 || is_some_part taken in
    let n5 : next ≡ (b4 || is_some_part (sent ++ taken)) = begun_next b4 b5 next sent taken e5 refl in
    let n4 : next ≡ (b3 || is_some_part (wait ++ (sent ++ taken))) = begun_next b3 b4 next wait (sent ++ taken) e4 n5 in
    let n3 : next ≡ (b2 || is_some_part (service ++ (wait ++ (sent ++ taken)))) = begun_next b2 b3 next service (wait ++ (sent ++ taken)) e3 n4 in
    let n2 : next ≡ (b1 || is_some_part (deaf ++ (service ++ (wait ++ (sent ++ taken))))) = begun_next b1 b2 next deaf (service ++ (wait ++ (sent ++ taken))) e2 n3 in
    let n1 : next ≡ is_some_part (off ++ (deaf ++ (service ++ (wait ++ (sent ++ taken))))) = begun_next false b1 next off (deaf ++ (service ++ (wait ++ (sent ++ taken)))) e1 n2 in
    let r = c.print_modes-2.result in
    record {
      begun = rw (← c.is_off.ensures, ← broadcast, ← once, ← gap, ← n1) c.print_modes-2.ensures.begun;
      text = rw (← c.is_off.ensures, ← broadcast, ← once, ← gap)
          (listed_then r _ _ _ false b1 s.own off (deaf ++ (service ++ (wait ++ (sent ++ taken)))) e1 (rw own at c.in_ok-begun.ensures.text)
          (listed_then r _ _ _ b1 b2 s.own deaf (service ++ (wait ++ (sent ++ taken))) e2 (rw own at c.in_ok-begun-2.ensures.text)
          (listed_then r _ _ _ b2 b3 s.own service (wait ++ (sent ++ taken)) e3 (rw own at c.in_ok-begun-3.ensures.text)
          (listed_then r _ _ _ b3 b4 s.own wait (sent ++ taken) e4 (rw own at c.in_ok-begun-4.ensures.text)
          (listed_then r _ _ _ b4 b5 s.own sent taken e5 c.in_ok-begun-5.ensures.text c.print_modes-2.ensures.text)))));
    }
