use Rattle.bench_view.proofs.Lettering.{words_none, words_more}
use Rattle.bench_view.proofs.line.put_words.Goals as goal

pub words-init : goal.words-init
words-init c = words_none c.args.text.now.items c.args.view.now

pub words-preserved : goal.words-preserved
words-preserved c =
    words_more c.args.text.now.items c.words.text.items c.put_word.new.text.items c.words.place c.args.view.now c.words.invariant
    (rw c.word.ensures at c.in_ok-put_word.ensures)
