use Rattle.judge_rules.specs.Ranges.{IsChoice, IsSpan}
use Rattle.signal_judge.proofs.Asking.{if_place}
use Rattle.signal_judge.proofs.reading.place_of.Goals as goal

pub returns-clause-ranges : goal.returns-clause-ranges
returns-clause-ranges c =
    rw (c.both.ensures, c.both-place.ensures)
    (if_place (IsChoice 1 65535) IsSpan c.args.channel c.args.bus c.args.span c.requires.channel c.requires.span)
