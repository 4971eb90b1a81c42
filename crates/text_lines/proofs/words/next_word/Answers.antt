use Rattle.std.proofs.Common.{◌≡◌, ◌<◌, [], refl, sym, ap, subst, ◌∙◌, length, arith}
use Rattle.std.specs.Prelude.{false, slice_index}
use Rattle.std.proofs.lemmas.Bool.Decides.{nat_tests}
use Rattle.text_lines.specs.Words.{from_word, is_space, words}
use Rattle.text_lines.proofs.WordLemmas.{from_word-words, from_word-starts, words-first, words-none}
use Rattle.text_lines.proofs.words.next_word.Goals as goal

pub returns-then-is_empty : goal.returns-then-is_empty
returns-then-is_empty c =
    let none : length c.from_word-text.result.now ≡ 0 = grind (arith, nat_tests) in
    let is : c.from_word-text.result.now ≡ from_word c.args.text.now = c.from_word-text.ensures in
    sym (from_word-words c.args.text.now) ∙ (ap words (sym is) ∙ words-none c.from_word-text.result.now none)

pub returns : goal.returns
returns c =
    let is : c.from_word-text.result.now ≡ from_word c.args.text.now = c.from_word-text.ensures in
    let some : 0 < length c.from_word-text.result.now = grind (arith, nat_tests) in
    let starts = from_word-starts c.args.text.now (subst (λ t. 0 < length t) is some) in
    let start : is_space (slice_index c.from_word-text.result.now 0) ≡ false = subst (λ t. is_space (slice_index t 0) ≡ false) (sym is) starts in
    let same : words c.args.text.now ≡ words c.from_word-text.result.now = sym (from_word-words c.args.text.now) ∙ ap words (sym is) in
    rw (same, words-first c.from_word-text.result.now some (λ _. start), c.split_at.ensures.front, c.split_at.ensures.back, c.len_before.ensures.value) refl
