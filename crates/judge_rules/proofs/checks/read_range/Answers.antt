use Rattle.judge_rules.proofs.Spelling.{range_behind}
use Rattle.judge_rules.proofs.checks.read_range.Goals as goal

pub returns : goal.returns
returns c =
    rw (c.ended.ensures, c.in_order-range.ensures, c.both-2.ensures, c.both.ensures, c.read_word-low.ensures.value, c.read_word-high.ensures.value, c.read_word-high.ensures.rest, c.read_word-low.ensures.rest) (range_behind c.args.place c.args.words.now)
