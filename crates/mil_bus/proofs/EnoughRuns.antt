-- Forty runs are enough: with as many turns left as words, one more turn changes nothing.
use Rattle.std.proofs.Common.{◌≡◌, ℕ, ◌+◌, ◌-◌, ◌≤◌, List, [], ◌∷◌, ◌++◌, length, zero, suc, refl, sym, ap, ◌∙◌, arith, Option, Some, None, length-append}
use Rattle.std.proofs.lemmas.List.{append-nil}
use Rattle.mil_word.specs.declared.Line.{Line}
use Rattle.mil_line.specs.declared.faults.Fault.{Fault}
use Rattle.mil_bus.specs.declared.talks.Sent.{Sent}
use Rattle.mil_terminal.specs.Station.{Station}
use Rattle.mil_bus.specs.Exchange.{Offer, Standing, run_sent, quiet_after, next_offer, all_hearing, standing_after, runs}
use Rattle.mil_bus.proofs.OneRun.{runs-none}

full : (room : ℕ) (faults : List Fault) (run : ℕ) (o : Offer) → room ≡ 0 → run_sent room faults run o ≡ []
unfolding run_sent
full room faults run o e = rw e refl

one_more_turn : (line : Line) (faults : List Fault) (run left : ℕ) (words sent : List Sent) (stations : List Station)
    → ((w : Sent) (ws : List Sent) → words ≡ w ∷ ws → runs left line faults (suc run) (next_offer line words (all_hearing line words stations)) (standing_after line words (record { sent = sent; stations = stations })) ≡ runs (suc left) line faults (suc run) (next_offer line words (all_hearing line words stations)) (standing_after line words (record { sent = sent; stations = stations })))
    → runs left line faults (suc run) (next_offer line words (all_hearing line words stations)) (standing_after line words (record { sent = sent; stations = stations })) ≡ runs (suc left) line faults (suc run) (next_offer line words (all_hearing line words stations)) (standing_after line words (record { sent = sent; stations = stations }))
one_more_turn line faults run left [] sent stations step =
    let s = standing_after line [] (record { sent = sent; stations = stations }) in
    runs-none left line faults (suc run) s ∙ sym (runs-none (suc left) line faults (suc run) s)
one_more_turn line faults run left (w ∷ ws) sent stations step = step w ws refl

pub runs-enough : (left : ℕ) (line : Line) (faults : List Fault) (run : ℕ) (o : Option Offer) (sent : List Sent) (stations : List Station) → 40 ≤ length sent + left
    → runs left line faults run o (record { sent = sent; stations = stations }) ≡ runs (suc left) line faults run o (record { sent = sent; stations = stations })
unfolding runs
runs-enough left line faults run None sent stations h =
    let s : Standing = record { sent = sent; stations = stations } in
    runs-none left line faults run s ∙ sym (runs-none (suc left) line faults run s)
runs-enough zero line faults run (Some o) sent stations h =
    let e : run_sent (40 - length sent) faults run o ≡ [] = full _ faults run o (omega arith) in
    rw (e, append-nil) refl
runs-enough (suc left) line faults run (Some o) sent stations h =
    let words = run_sent (40 - length sent) faults run o in
    one_more_turn line faults run left words sent stations
    (λ w ws e. runs-enough left line faults (suc run) (next_offer line words (all_hearing line words stations)) (sent ++ words) (quiet_after line words (all_hearing line words stations)) (omega (arith, length-append sent words, ap (λ (l : List Sent). length l) e)))

pub forty : (more : ℕ) (line : Line) (faults : List Fault) (offer : Offer) (stations : List Station)
    → runs (40 + more) line faults 0 (Some offer) (record { sent = []; stations = stations }) ≡ runs 40 line faults 0 (Some offer) (record { sent = []; stations = stations })
forty zero line faults offer stations = refl
forty (suc more) line faults offer stations =
    let next : 40 + suc more ≡ suc (40 + more) = omega arith in
    ap (λ n. runs n line faults 0 (Some offer) (record { sent = []; stations = stations })) next
    ∙ sym (runs-enough (40 + more) line faults 0 (Some offer) [] stations (omega arith)) ∙ forty more line faults offer stations
