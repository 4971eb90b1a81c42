use Rattle.std.proofs.Common.{refl}
use Rattle.mil_terminal.specs.Registers.{vector}
use Rattle.mil_terminal.proofs.Setting.{on_none}
use Rattle.mil_terminal.proofs.host.Settings.at_first.Goals as goal

pub returns : goal.returns
unfolding vector
returns c = λ own. record {
  busy = refl;
  service = refl;
  once = refl;
  subsystem = refl;
  fault = refl;
  control = refl;
  vector = refl;
  self_test = refl;
  response = c.of.ensures;
  by_gap = refl;
  bit = refl;
  broadcast = refl;
  off = refl;
  marks = λ t sub n _ _ _ _. c.none.ensures.none t sub n;
  modes = λ t code _. c.none.ensures.no_modes t code;
  deaf = on_none c.none-2.result c.none-2.ensures;
  mute = on_none c.none-3.result c.none-3.ensures;
}
