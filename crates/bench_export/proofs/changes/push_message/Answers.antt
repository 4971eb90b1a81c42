use Rattle.bench_export.proofs.Changing.{no_words, word_more}
use Rattle.bench_export.proofs.changes.push_message.Goals as goal

pub words-init : goal.words-init
words-init c = record {
  changes = no_words c.args.changes.now.items c.args.message.number c.args.message.channel c.args.view.now;
  begin = c.begin_of-begin.ensures.value;
  small = c.begin_of-begin.ensures.small;
}

pub words-preserved : goal.words-preserved
words-preserved c = record {
  changes =
      word_more c.args.changes.now.items c.words.changes.items c.push_word.new.changes.items c.words.place c.args.message.number c.args.message.channel c.args.view.now
      c.words.invariant.changes c.in_ok-push_word.ensures;
  begin = c.begin_of-next.ensures.value;
  small = c.begin_of-next.ensures.small;
}
