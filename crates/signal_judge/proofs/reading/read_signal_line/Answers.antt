use Rattle.std.proofs.Common.{◌≡◌, drop, refl}
use Rattle.std.specs.Prelude.{codes}
use Rattle.std.proofs.lemmas.Bool.{and_parts}
use Rattle.judge_rules.specs.Lines.{from_selector}
use Rattle.text_lines.specs.Words.{begins_with, words}
use Rattle.signal_judge.specs.Rules.{signal_rule_in}
use Rattle.signal_judge.proofs.reading.read_signal_line.Goals as goal

pub returns-clause-value : goal.returns-clause-value
unfolding signal_rule_in
returns-clause-value c =
    let all = words c.args.text.now in
    let parts = and_parts (begins_with (codes "expect") all) (begins_with (codes "signal") (from_selector (drop 1 all))) c.requires in
    let expect : c.takes-expect.new.self ≡ drop 1 all = rw (c.takes-expect.ensures.rest, c.takes-expect.ensures.answer, c.of-words.ensures, parts.0) refl in
    let behind : c.takes-signal.new.self ≡ drop 1 (from_selector (drop 1 all)) =
    rw (c.takes-signal.ensures.rest, c.takes-signal.ensures.answer, c.read_place-place.ensures.rest, expect, parts.1) refl in
    rw (c.rule_from.ensures.value, c.read_place-place.ensures.value, c.read_what-what.ensures.value, expect, behind) refl
