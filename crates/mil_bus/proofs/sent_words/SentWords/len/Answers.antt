use Rattle.std.proofs.Common.{length, ap, arith, length-append}
use Rattle.arrayvec.specs.ArrayVec.{ArrayVec}
use Rattle.mil_bus.specs.declared.talks.Sent.{Sent}
use Rattle.mil_bus.specs.Wholes.{all_words}
use Rattle.mil_bus.proofs.KeptRuns.{all_words-length}
use Rattle.mil_bus.proofs.sent_words.SentWords.len.Goals as goal

pub returns-clause-value : goal.returns-clause-value
returns-clause-value c =
    let runs = c.self.inside.runs.items in
    let values = c.self.inside.values.items in
    let each = c.self.inside.each.items in
    omega (arith, ap (λ (s : ArrayVec Sent). length s.items) c.self.view_is, length-append (all_words runs values) each, all_words-length runs values c.self.invariant.counted, c.len.ensures.value, c.len-2.ensures.value)
