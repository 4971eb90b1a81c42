use Rattle.std.proofs.Common.{◌≡◌, ◌+◌, ◌≤◌, ◌==◌, [], ◌∷◌, ◌++◌, length, true, false, refl, sym, ap, ◌∙◌, arith, length-append}
use Rattle.std.proofs.lemmas.Bool.Decides.{nat_tests}
use Rattle.arrayvec.specs.ArrayVec.{ArrayVec}
use Rattle.mil_terminal.proofs.SlotLemmas.{where_ok}
use Rattle.mil_bus.specs.declared.talks.Sent.{Sent}
use Rattle.mil_bus.specs.declared.wholes.Whole.{Whole}
use Rattle.mil_bus.specs.Wholes.{all_words, whole_words, words_in}
use Rattle.mil_bus.proofs.KeptRuns.{all_words-length, all_words-push, words_in-push, small-append, some-push, put-is}
use Rattle.mil_bus.proofs.sent_words.SentWords.put_whole.Goals as goal

pub invariant_of-self : goal.invariant_of-self
invariant_of-self c =
    let runs = c.self.inside.runs.items in
    let values = c.self.inside.values.items in
    let each = c.self.inside.each.items in
    let words = c.as_slice-words.result.now in
    let none : (length each == 0) ≡ true = sym c.is_empty.ensures ∙ c.if-not-is_empty.false in
    let empty : length each ≡ 0 = grind (arith, nat_tests) in
    let more : (length words == 0) ≡ false = sym c.is_empty-else-not-is_empty.ensures ∙ c.if-is_empty.false in
    let some : 1 ≤ length words = grind (arith, nat_tests) in
    let fit : length values + length words ≤ 40 = omega (arith, c.if-room-words.false, c.len-room.ensures.value, c.self.invariant.few) in
    let room = c.try_extend_from_slice.ensures.variant.1 (omega (arith, fit)) in
    let put : c.try_extend_from_slice.new.self.items ≡ values ++ words = where_ok c.try_extend_from_slice.result _ room c.try_extend_from_slice.ensures.ok in
    record {
      counted = ap words_in c.push.ensures.items ∙ words_in-push runs _ ∙ omega (arith, c.self.invariant.counted, ap length put, length-append values words);
      some = rw c.push.ensures.items (some-push runs _ c.self.invariant.some some);
      few = omega (arith, ap length put, length-append values words, fit, empty);
      small = rw put (small-append values words c.self.invariant.small c.are_small.ensures);
    }

pub returns-clause-put : goal.returns-clause-put
returns-clause-put c = λ _.
    let runs = c.self.inside.runs.items in
    let values = c.self.inside.values.items in
    let each = c.self.inside.each.items in
    let words = c.as_slice-words.result.now in
    let run = c.args.run.now in
    let r : Whole = record { number = run.number; source = run.source; gap = run.gap; commands = c.args.values.now.commands; count = length words } in
    let none : (length each == 0) ≡ true = sym c.is_empty.ensures ∙ c.if-not-is_empty.false in
    let empty : length each ≡ 0 = grind (arith, nat_tests) in
    let fit : length values + length words ≤ 40 = omega (arith, c.if-room-words.false, c.len-room.ensures.value, c.self.invariant.few) in
    let room = c.try_extend_from_slice.ensures.variant.1 (omega (arith, fit)) in
    let put : c.try_extend_from_slice.new.self.items ≡ values ++ words = where_ok c.try_extend_from_slice.result _ room c.try_extend_from_slice.ensures.ok in
    ap (λ rs. all_words rs c.try_extend_from_slice.new.self.items ++ each) c.push.ensures.items ∙ ap (λ vs. all_words (runs ++ r ∷ []) vs ++ each) put
    ∙ ap (λ ws. ws ++ each) (all_words-push runs values r words c.self.invariant.counted refl)
    ∙ put-is (all_words runs values) (whole_words r words) each c.args.self.now.items empty (ap (λ (s : ArrayVec Sent). s.items) c.self.view_is)
    ∙ ap (λ ws. c.args.self.now.items ++ whole_words r ws) c.as_slice-words.ensures.value

pub returns-clause-room : goal.returns-clause-room
returns-clause-room c = λ _.
    let runs = c.self.inside.runs.items in
    let values = c.self.inside.values.items in
    let each = c.self.inside.each.items in
    let words = c.as_slice-words.result.now in
    let none : (length each == 0) ≡ true = sym c.is_empty.ensures ∙ c.if-not-is_empty.false in
    let empty : length each ≡ 0 = grind (arith, nat_tests) in
    omega (arith, c.if-room-words.false, c.len-room.ensures.value, c.self.invariant.few, empty, ap length c.as_slice-words.ensures.value, all_words-length runs values c.self.invariant.counted, ap (λ (s : ArrayVec Sent). length s.items) c.self.view_is, length-append (all_words runs values) each)
