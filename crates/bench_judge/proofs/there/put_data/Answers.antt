use Rattle.std.proofs.Common.{◌+◌, ◌++◌, ◌∷◌, ◌∙◌, ℕ, List, [], ap, sym, arith, append_assoc, append-nil}
use Rattle.std.specs.Prelude.{codes, map}
use Rattle.std.specs.List.{flat_map, range_with_len}
use Rattle.std.proofs.lemmas.Grind.{flat_map-append}
use Rattle.std.proofs.lemmas.List.FromFn.{map-range_with_len_more}
use Rattle.ch11_layout.specs.Layouts.{word_of}
use Rattle.bench_judge.specs.Told.{spaced_word}
use Rattle.bench_judge.proofs.there.put_data.Goals as goal

pub words-preserved : goal.words-preserved
words-preserved c =
    let word = λ (place : ℕ). word_of c.args.view.now.bytes (c.layout-start.result.data_start + place) in
    let place = c.words.place in
    let front = map word (range_with_len 0 place) in
    let old = c.args.text.now.items in
    c.in_ok-put_word.ensures
    ∙ ap (λ (l : List ℕ). l ++ spaced_word c.word.result) c.words.invariant
    ∙ append_assoc old (codes "data" ++ flat_map spaced_word front) (spaced_word c.word.result)
    ∙ ap (λ (l : List ℕ). old ++ l) (append_assoc (codes "data") (flat_map spaced_word front) (spaced_word c.word.result))
    ∙ ap (λ (l : List ℕ). old ++ (codes "data" ++ (flat_map spaced_word front ++ l))) (ap spaced_word c.word.ensures ∙ sym (append-nil (spaced_word (word place))))
    ∙ ap (λ (l : List ℕ). old ++ (codes "data" ++ l)) (sym (flat_map-append spaced_word front (word place ∷ [])))
    ∙ ap (λ (l : List ℕ). old ++ (codes "data" ++ flat_map spaced_word l)) (sym (map-range_with_len_more word 0 place place (omega arith)))
