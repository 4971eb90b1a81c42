use Rattle.std.proofs.Common.{◌≡◌, ◌%◌, ap, ◌∙◌, arith, false, slice_index}
use Rattle.mil_word.specs.Fields.{address_of, is_broadcast}
use Rattle.mil_bus.specs.Index.{is_command_to}
use Rattle.mil_bus.proofs.Masks.{all_set, clear_before, clear_apart, commands_other}
use Rattle.mil_bus.proofs.hearing.concerned.Goals as goal

pub returns-then-is_broadcast-clause-kept : goal.returns-then-is_broadcast-clause-kept
returns-then-is_broadcast-clause-kept c = λ k lt clear. absurd (all_set k lt clear)

pub returns-then-is_broadcast-clause-commanded : goal.returns-then-is_broadcast-clause-commanded
returns-then-is_broadcast-clause-commanded c = λ own own_lt lt clear. absurd (all_set (slice_index c.args.places.now own) lt clear)

pub returns-else-is_broadcast-clause-kept : goal.returns-else-is_broadcast-clause-kept
returns-else-is_broadcast-clause-kept c = λ k lt clear. clear_before c.args.opened _ k clear

pub returns-else-is_broadcast-clause-commanded : goal.returns-else-is_broadcast-clause-commanded
returns-else-is_broadcast-clause-commanded c = λ own own_lt lt clear.
    let alone : is_broadcast c.in-Some.word.value ≡ false = cc in
    let address : c.address.result ≡ address_of c.in-Some.word.value = cc in
    ap (is_command_to own) c.in-Some.is ∙ commands_other c.in-Some.word own alone
    (λ same. clear_apart c.args.opened (slice_index c.args.places.now c.address.result % 32) (slice_index c.args.places.now own) (omega arith) clear
    (ap (λ a. slice_index c.args.places.now a % 32) (address ∙ same) ∙ omega (arith, lt)))
