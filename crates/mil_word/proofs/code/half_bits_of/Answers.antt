use Rattle.std.proofs.Common.{◌≡◌, ◌+◌, arith, ◌∙◌, ap, sym}
use Rattle.std.specs.List.{flat_map}
use Rattle.std.proofs.lemmas.Nat.{and_mask}
use Rattle.mil_word.specs.Wave.{digits, number, pair, sync_halves}
use Rattle.mil_word.proofs.WaveLemmas.{command_sync, data_sync, wave_below}
use Rattle.mil_word.proofs.Parts.{wave_by_bytes}
use Rattle.mil_word.proofs.code.half_bits_of.Goals as goal
use Rattle.mil_word.proofs.code.half_bits_of.Goals.{in-CommandSync, in-DataSync}

pub returns-clause-value : goal.returns-clause-value
returns-clause-value c =
    let sync_is : c.match-word.sync ≡ number (sync_halves c.args.word.sync) =
    elim c.match-word.branch [
      | in-CommandSync w ↦ w.sync-is ∙ command_sync ∙ sym (ap (λ s. number (sync_halves s)) w.in-CommandSync.is)
      | in-DataSync w ↦ w.sync-is ∙ data_sync ∙ sym (ap (λ s. number (sync_halves s)) w.in-DataSync.is)
    ] in
    let low_is = c.pairs_of-low.ensures.halves ∙ ap (λ n. number (flat_map pair (digits 8 n))) (and_mask c.args.word.value 8) in
    let last_is = ap (λ n. n + 1) c.from-last.ensures in
    c.joined.ensures ∙ rw sync_is (sym (wave_by_bytes c.args.word c.pairs_of-high.result c.pairs_of-low.result (c.from-last.result + 1) (omega arith) c.pairs_of-high.ensures.halves low_is last_is))

pub returns-clause-small : goal.returns-clause-small
returns-clause-small c = rw (returns-clause-value c) (wave_below c.args.word)
