use Rattle.std.proofs.Common.{◌+◌, ◌∙◌, ℕ, List, [], ◌∷◌, ◌++◌, ap, sym, arith, length, length-append}
use Rattle.std.specs.Prelude.{map}
use Rattle.std.specs.List.{range_with_len}
use Rattle.std.proofs.lemmas.List.FromFn.{map-range_with_len_more}
use Rattle.ch11_layout.specs.Layouts.{word_of}
use Rattle.ch11_layout.proofs.view.View.data_words.Goals as goal

pub words-preserved : goal.words-preserved
words-preserved c =
    let word = λ (place : ℕ). word_of c.args.self.now.bytes (c.data_start-start.result + place) in
    record {
      many = omega (arith, ap length c.push.ensures.items, length-append c.words.found.items (c.word.result ∷ []), c.words.invariant.many);
      words = c.push.ensures.items ∙ ap (λ (xs : List ℕ). xs ++ c.word.result ∷ []) c.words.invariant.words
          ∙ ap (λ (w : ℕ). map word (range_with_len 0 c.words.place) ++ w ∷ []) c.word.ensures ∙ sym (map-range_with_len_more word 0 c.words.place c.words.place (omega arith));
    }
