use Rattle.std.proofs.Common.{◌≡◌, ◌+◌, ◌≤◌, ◌++◌, length, sym, ap, ◌∙◌, arith, length-append, append_assoc}
use Rattle.arrayvec.specs.ArrayVec.{ArrayVec}
use Rattle.mil_terminal.proofs.SlotLemmas.{where_ok}
use Rattle.mil_bus.specs.declared.talks.Sent.{Sent}
use Rattle.mil_bus.specs.Wholes.{all_words}
use Rattle.mil_bus.proofs.KeptRuns.{all_words-length}
use Rattle.mil_bus.proofs.sent_words.SentWords.put_each.Goals as goal

pub invariant_of-self : goal.invariant_of-self
invariant_of-self c =
    let runs = c.self.inside.runs.items in
    let values = c.self.inside.values.items in
    let each = c.self.inside.each.items in
    let words = c.args.words.now in
    let fit : length values + length each + length words ≤ 40 =
    omega (arith, c.requires, ap (λ (s : ArrayVec Sent). length s.items) c.self.view_is, length-append (all_words runs values) each, all_words-length runs values c.self.invariant.counted) in
    let room = c.try_extend_from_slice.ensures.variant.1 (omega (arith, fit)) in
    let put : c.try_extend_from_slice.new.self.items ≡ each ++ words = where_ok c.try_extend_from_slice.result _ room c.try_extend_from_slice.ensures.ok in
    record {
      counted = c.self.invariant.counted;
      some = c.self.invariant.some;
      few = omega (arith, fit, ap length put, length-append each words);
      small = c.self.invariant.small;
    }

pub returns : goal.returns
returns c =
    let runs = c.self.inside.runs.items in
    let values = c.self.inside.values.items in
    let each = c.self.inside.each.items in
    let words = c.args.words.now in
    let fit : length values + length each + length words ≤ 40 =
    omega (arith, c.requires, ap (λ (s : ArrayVec Sent). length s.items) c.self.view_is, length-append (all_words runs values) each, all_words-length runs values c.self.invariant.counted) in
    let room = c.try_extend_from_slice.ensures.variant.1 (omega (arith, fit)) in
    let put : c.try_extend_from_slice.new.self.items ≡ each ++ words = where_ok c.try_extend_from_slice.result _ room c.try_extend_from_slice.ensures.ok in
    ap (λ ws. all_words runs values ++ ws) put ∙ sym (append_assoc (all_words runs values) each words)
    ∙ ap (λ (s : ArrayVec Sent). s.items ++ words) c.self.view_is
