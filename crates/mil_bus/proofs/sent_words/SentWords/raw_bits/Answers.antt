use Rattle.std.proofs.Common.{◌≡◌, ◌++◌, ◌==◌, map, length, true, sym, ap, ◌∙◌, arith}
use Rattle.std.proofs.lemmas.Bool.Decides.{nat_tests}
use Rattle.arrayvec.specs.ArrayVec.{ArrayVec}
use Rattle.mil_word.specs.Wave.{raw_of}
use Rattle.mil_terminal.proofs.SlotLemmas.{where_ok}
use Rattle.mil_bus.specs.declared.talks.Sent.{Sent}
use Rattle.mil_bus.specs.Wholes.{all_words}
use Rattle.mil_bus.proofs.KeptRuns.{front-is, raw-all}
use Rattle.mil_bus.proofs.sent_words.SentWords.raw_bits.Goals as goal

pub returns : goal.returns
returns c =
    let runs = c.self.inside.runs.items in
    let values = c.self.inside.values.items in
    let each = c.self.inside.each.items in
    let is : (length each == 0) ≡ true = sym c.is_empty.ensures ∙ c.if-not-is_empty.false in
    let none : length each ≡ 0 = grind (arith, nat_tests) in
    let all : all_words runs values ≡ c.args.self.now.items = front-is (all_words runs values) each c.args.self.now.items none (ap (λ (s : ArrayVec Sent). s.items) c.self.view_is) in
    let room = c.try_extend_from_slice.ensures.variant.1 (omega (arith, ap length c.new-words.ensures, c.self.invariant.few, ap length c.as_slice.ensures.value)) in
    let put : c.try_extend_from_slice.new.self.items ≡ c.new-words.result.items ++ c.as_slice.result.now = where_ok c.try_extend_from_slice.result _ room c.try_extend_from_slice.ensures.ok in
    put ∙ ap (λ xs. xs ++ c.as_slice.result.now) c.new-words.ensures ∙ c.as_slice.ensures.value
    ∙ sym (raw-all runs values c.self.invariant.counted c.self.invariant.small) ∙ ap (map (λ (w : Sent). raw_of w.wave)) all
