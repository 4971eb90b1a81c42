use Rattle.std.proofs.Common.{◌≡◌, map, take}
use Rattle.mil_message.specs.declared.forms.Due.{Due}
use Rattle.bench_one.proofs.single.addresses_named.Given as goal

-- the addresses of the replies so far
abbrev pub invariant-loop-due : goal.invariant-loop-due
invariant-loop-due l = l.addresses.items ≡ map (λ (d : Due). d.address) (take l.due-index l.due-items)
