-- The runs of an exchange without planned faults, one after the other.
use Rattle.std.proofs.Common.{◌≡◌, ℕ, ◌+◌, ◌-◌, ◌≤◌, List, [], ◌∷◌, ◌++◌, map, length, refl, sym, ap, ◌∙◌, Option, Some, None}
use Rattle.std.specs.List.{AllByRecursion}
use Rattle.std.specs.Option.{option_or}
use Rattle.std.proofs.lemmas.List.{take_all}
use Rattle.mil_word.specs.declared.Line.{Line}
use Rattle.mil_terminal.specs.Station.{Station}
use Rattle.mil_bus.specs.declared.talks.Sent.{Sent}
use Rattle.mil_bus.specs.Exchange.{Offer, Standing, contiguous_run, run_sent, quiet_after, next_offer, all_hearing, first_reply, answer, runs}
use Rattle.mil_bus.specs.DataRuns.{hearing_all}
use Rattle.mil_bus.proofs.OneRun.{runs-some, runs-none}
use Rattle.mil_bus.proofs.Untouched.{run_sent-untouched}
use Rattle.mil_bus.proofs.DataRuns.{all_hearing-cut}

-- all that a sender gives comes on the line, where there is room for it
whole-run : (room run : ℕ) (o : Offer) → length o.waves ≤ room → run_sent room [] run o ≡ contiguous_run run o.source o.gap o.waves
whole-run room run o fits = run_sent-untouched room [] run o refl ∙ ap (contiguous_run run o.source o.gap) (take_all room o.waves fits)

-- one run, and the next offer
one-turn : (left run : ℕ) (line : Line) (o : Offer) (sent : List Sent) (stations : List Station) (next : Option Offer) → length o.waves ≤ 40 - length sent
    → next_offer line (contiguous_run run o.source o.gap o.waves) (all_hearing line (contiguous_run run o.source o.gap o.waves) stations) ≡ next
    → runs (left + 1) line [] run (Some o) (record { sent = sent; stations = stations })
    ≡ runs left line [] (run + 1) next (record { sent = sent ++ contiguous_run run o.source o.gap o.waves; stations = quiet_after line (contiguous_run run o.source o.gap o.waves) (all_hearing line (contiguous_run run o.source o.gap o.waves) stations) })
one-turn left run line o sent stations next fits is =
    let words = contiguous_run run o.source o.gap o.waves in
    let e : words ≡ run_sent (40 - length sent) [] run o = sym (whole-run (40 - length sent) run o fits) in
    sym (runs-some left line [] run o sent (sent ++ words) stations (quiet_after line words (all_hearing line words stations)) next
    (ap (λ ws. sent ++ ws) e) (ap (λ ws. quiet_after line ws (all_hearing line ws stations)) e)
    (sym is ∙ ap (λ ws. next_offer line ws (all_hearing line ws stations)) e))

-- one run, and all that is sent by the end
pub turn-then : (left run : ℕ) (line : Line) (o : Offer) (sent : List Sent) (stations : List Station) (next : Option Offer) (all : List Sent) → length o.waves ≤ 40 - length sent
    → next_offer line (contiguous_run run o.source o.gap o.waves) (all_hearing line (contiguous_run run o.source o.gap o.waves) stations) ≡ next
    → (runs left line [] (run + 1) next (record { sent = sent ++ contiguous_run run o.source o.gap o.waves; stations = quiet_after line (contiguous_run run o.source o.gap o.waves) (all_hearing line (contiguous_run run o.source o.gap o.waves) stations) })).sent ≡ all
    → (runs (left + 1) line [] run (Some o) (record { sent = sent; stations = stations })).sent ≡ all
turn-then left run line o sent stations next all fits is rest = ap (λ (s : Standing). s.sent) (one-turn left run line o sent stations next fits is) ∙ rest

-- the last run, which nobody answers
pub last-turn : (left run : ℕ) (line : Line) (o : Offer) (sent : List Sent) (stations : List Station) → length o.waves ≤ 40 - length sent
    → first_reply line (all_hearing line (contiguous_run run o.source o.gap o.waves) stations) ≡ None
    → (runs (left + 1) line [] run (Some o) (record { sent = sent; stations = stations })).sent ≡ sent ++ contiguous_run run o.source o.gap o.waves
last-turn left run line o sent stations fits silent =
    let words = contiguous_run run o.source o.gap o.waves in
    turn-then left run line o sent stations None (sent ++ words) fits (no_offer words (all_hearing line words stations) silent)
    (ap (λ (s : Standing). s.sent) (runs-none left line [] (run + 1) (record { sent = sent ++ words; stations = quiet_after line words (all_hearing line words stations) })))
  where
    no_offer : (ws : List Sent) (ss : List Station) → first_reply line ss ≡ None → next_offer line ws ss ≡ None
    no_offer [] ss none = refl
    no_offer (w ∷ ws) ss none = none

-- nobody answers where no station does
pub nobody : (line : Line) (stations : List Station) → AllByRecursion (λ s. answer line s ≡ None) stations → first_reply line stations ≡ None
nobody line [] none = refl
nobody line (s ∷ ss) none = ap (λ o. option_or o (first_reply line ss)) none.0 ∙ nobody line ss none.1

-- all hear words one by one
pub all-hear : (line : Line) (ws : List Sent) (stations : List Station) → map (hearing_all line ws) stations ≡ all_hearing line ws stations
all-hear line ws stations = all_hearing-cut line 0 ws stations
