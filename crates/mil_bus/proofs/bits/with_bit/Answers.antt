use Rattle.std.proofs.Common.{refl}
use Rattle.mil_bus.proofs.Masks.{clear_before, clear_apart}
use Rattle.mil_bus.proofs.bits.with_bit.Goals as goal

pub returns-then-on-clause-kept : goal.returns-then-on-clause-kept
returns-then-on-clause-kept c = λ k clear. clear_before c.args.mask c.args.place k clear

pub returns-then-on-clause-there : goal.returns-then-on-clause-there
returns-then-on-clause-there c = λ clear. absurd (clear_apart c.args.mask c.args.place c.args.place c.requires clear refl)
