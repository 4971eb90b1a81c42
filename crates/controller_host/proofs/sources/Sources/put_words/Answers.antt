use Rattle.std.proofs.Common.{◌∙◌, ◌+◌, get_or, ap}
use Rattle.controller_host.specs.Sources.{with_source}
use Rattle.controller_host.proofs.Words.{word_more, row_of_word}
use Rattle.controller_host.proofs.sources.Sources.put_words.Goals as goal

pub loop-i-preserved : goal.loop-i-preserved
loop-i-preserved c = record {
  ready = c.put.ensures.ready;
  sources = λ d place is.
      c.put.ensures.sources d place is
      ∙ ap (λ was. with_source (row_of_word c.destination-destination.result (c.loop-i.i + 1) (get_or c.words-word-items.result.now c.loop-i.i 0)) was d place) (c.loop-i.invariant.sources d place is)
      ∙ word_more c.words-word-items.result.now c.loop-i.i c.loop-i-test.true d c.destination-destination.result _ place;
}
