use Rattle.std.proofs.Common.{◌≡◌, refl, sym, ap, ◌∙◌, arith}
use Rattle.bench_decode.specs.ReadingText.{reading_of}
use Rattle.bench_decode.specs.Superseding.{second_place}
use Rattle.bench_decode.proofs.readings.Reading.of.Goals as goal

pub returns-in-Some-clause-reading : goal.returns-in-Some-clause-reading
unfolding reading_of
returns-in-Some-clause-reading c = rw (← c.second_command.ensures.place, c.in-Some.is) refl

pub returns-in-Some-clause-near : goal.returns-in-Some-clause-near
returns-in-Some-clause-near c = omega (arith, c.in-Some.ensures.near)

pub returns-in-None-clause-reading : goal.returns-in-None-clause-reading
unfolding reading_of
returns-in-None-clause-reading c = rw (← c.second_command.ensures.place, c.in-None.is) c.without_second.ensures.reading

pub returns-in-None-clause-near : goal.returns-in-None-clause-near
returns-in-None-clause-near c = c.without_second.ensures.near
