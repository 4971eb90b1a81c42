use Rattle.std.proofs.Common.{◌∙◌}
use Rattle.mil_terminal.specs.PutUp.{ramp_at}
use Rattle.mil_terminal.proofs.registers.Registers.ramp.Goals as goal

pub returns : goal.returns
unfolding ramp_at
returns c = λ h is. rw (c.ramp.ensures, c.from.ensures) (is.put_up.ramps c.args.sub c.args.place c.requires)
