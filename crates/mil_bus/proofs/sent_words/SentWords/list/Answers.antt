use Rattle.std.proofs.Common.{◌≡◌, ◌++◌, List, length, ap, ◌∙◌, arith}
use Rattle.arrayvec.specs.ArrayVec.{ArrayVec}
use Rattle.mil_terminal.proofs.SlotLemmas.{where_ok}
use Rattle.mil_bus.specs.declared.talks.Sent.{Sent}
use Rattle.mil_bus.specs.Wholes.{all_words}
use Rattle.mil_bus.proofs.KeptRuns.{all_words-length}
use Rattle.mil_bus.proofs.sent_words.SentWords.list.Goals as goal

pub returns : goal.returns
returns c =
    let runs = c.self.inside.runs.items in
    let values = c.self.inside.values.items in
    let each = c.self.inside.each.items in
    let front : c.words_of-words.result.items ≡ all_words runs values =
    c.words_of-words.ensures ∙ ap (λ rs. all_words rs c.as_slice-2.result.now) c.as_slice.ensures.value ∙ ap (all_words runs) c.as_slice-2.ensures.value in
    let room = c.try_extend_from_slice.ensures.variant.1 (omega (arith, ap length front, all_words-length runs values c.self.invariant.counted, c.self.invariant.few, ap length c.as_slice-3.ensures.value)) in
    let put : c.try_extend_from_slice.new.self.items ≡ c.words_of-words.result.items ++ c.as_slice-3.result.now = where_ok c.try_extend_from_slice.result _ room c.try_extend_from_slice.ensures.ok in
    ap (λ (xs : List Sent). let v : ArrayVec Sent = record { items = xs } in v)
    (put ∙ ap (λ xs. xs ++ c.as_slice-3.result.now) front ∙ ap (λ xs. all_words runs values ++ xs) c.as_slice-3.ensures.value) ∙ c.self.view_is
