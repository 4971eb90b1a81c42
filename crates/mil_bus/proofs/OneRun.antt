-- One run and what follows it.
use Rattle.std.proofs.Common.{◌≡◌, ◌≢◌, ℕ, ◌+◌, ◌-◌, ◌<◌, true, false, List, [], ◌∷◌, ◌++◌, map, take, length, length-append, zero, suc, refl, sym, ap, ◌∙◌, arith, Option, Some, None, add-one}
use Rattle.std.specs.Prelude.{nat_lt}
use Rattle.std.proofs.lemmas.Bool.Decides.{nat_tests}
use Rattle.mil_word.specs.declared.Line.{Line}
use Rattle.mil_line.specs.declared.faults.Fault.{Fault}
use Rattle.mil_line.specs.Faults.{altered, gap_of}
use Rattle.mil_line.specs.declared.line_words.LineWord.{LineWord}
use Rattle.mil_bus.specs.declared.talks.Sent.{Sent}
use Rattle.mil_terminal.specs.Station.{Station}
use Rattle.mil_bus.specs.Exchange.{Offer, Standing, words_of_run, run_sent, quieted, first_reply, quiet_after, next_offer, all_hearing, runs}
use Rattle.mil_bus.specs.Said.{IsSaid}

pub run_sent-some : (room : ℕ) (faults : List Fault) (run : ℕ) (o : Offer) (gap : ℕ) (ws : List LineWord) → ws ≡ take room (altered faults run o.waves) → gap ≡ gap_of faults run o.gap → run_sent room faults run o ≡ words_of_run run o.source gap ws
unfolding run_sent
run_sent-some room faults run o gap ws e g = rw (g, e) refl

pub runs-none : (left : ℕ) (line : Line) (faults : List Fault) (run : ℕ) (s : Standing) → runs left line faults run None s ≡ s
unfolding runs
runs-none zero line faults run s = refl
runs-none (suc left) line faults run s = refl

pub runs-some : (left : ℕ) (line : Line) (faults : List Fault) (run : ℕ) (o : Offer) (sent sent_after : List Sent) (stations stations_after : List Station) (next : Option Offer)
    → sent_after ≡ sent ++ run_sent (40 - length sent) faults run o
    → stations_after ≡ quiet_after line (run_sent (40 - length sent) faults run o) (all_hearing line (run_sent (40 - length sent) faults run o) stations)
    → next ≡ next_offer line (run_sent (40 - length sent) faults run o) (all_hearing line (run_sent (40 - length sent) faults run o) stations)
    → runs left line faults (run + 1) next (record { sent = sent_after; stations = stations_after }) ≡ runs (left + 1) line faults run (Some o) (record { sent = sent; stations = stations })
unfolding runs
runs-some left line faults run o sent sent_after stations stations_after next e1 e2 e3 = rw (e1, e2, e3, add-one left, add-one run) refl

-- behind a run of no word nothing comes
none-after : (line : Line) (words : List Sent) (stations : List Station) → length words ≡ 0 → quiet_after line words stations ≡ stations
none-after line [] stations none = refl
none-after line (w ∷ words) stations none = absurd (omega (arith, none))

none-next : (line : Line) (words : List Sent) (stations : List Station) → length words ≡ 0 → next_offer line words stations ≡ None
none-next line [] stations none = refl
none-next line (w ∷ words) stations none = absurd (omega (arith, none))

some-after : (line : Line) (words : List Sent) (stations : List Station) → length words ≢ 0 → quiet_after line words stations ≡ map (quieted line) stations
some-after line [] stations some = absurd (some refl)
some-after line (w ∷ words) stations some = refl

some-next : (line : Line) (words : List Sent) (stations : List Station) → length words ≢ 0 → next_offer line words stations ≡ first_reply line stations
some-next line [] stations some = absurd (some refl)
some-next line (w ∷ words) stations some = refl

-- a run that puts no word on the line is the last
pub runs-unsaid : (left : ℕ) (line : Line) (faults : List Fault) (run : ℕ) (o : Offer) (sent sent_after : List Sent) (stations stations_after : List Station)
    → IsSaid line faults run o (record { sent = sent; stations = stations }) (record { sent = sent_after; stations = stations_after })
    → nat_lt (length sent) (length sent_after) ≡ false
    → runs left line faults (run + 1) None (record { sent = sent_after; stations = stations_after }) ≡ runs (left + 1) line faults run (Some o) (record { sent = sent; stations = stations })
runs-unsaid left line faults run o sent sent_after stations stations_after is same =
    let words = run_sent (40 - length sent) faults run o in
    let long : length sent_after ≡ length sent + length words = ap length is.sent ∙ length-append sent words in
    let none : length words ≡ 0 = grind (arith, nat_tests) in
    let said = all_hearing line words stations in
    runs-some left line faults run o sent sent_after stations stations_after None is.sent (is.stations ∙ sym (none-after line words said none)) (sym (none-next line words said none))

-- behind one that does, a quiet comes to all
pub runs-said : (left : ℕ) (line : Line) (faults : List Fault) (run : ℕ) (o : Offer) (sent sent_after : List Sent) (stations said stations_after : List Station) (next : Option Offer)
    → IsSaid line faults run o (record { sent = sent; stations = stations }) (record { sent = sent_after; stations = said })
    → nat_lt (length sent) (length sent_after) ≡ true
    → stations_after ≡ map (quieted line) said
    → next ≡ first_reply line said
    → runs left line faults (run + 1) next (record { sent = sent_after; stations = stations_after }) ≡ runs (left + 1) line faults run (Some o) (record { sent = sent; stations = stations })
runs-said left line faults run o sent sent_after stations said stations_after next is other e3 e4 =
    let words = run_sent (40 - length sent) faults run o in
    let long : length sent_after ≡ length sent + length words = ap length is.sent ∙ length-append sent words in
    let more : length sent < length sent_after = grind (arith, nat_tests) in
    let some : length words ≢ 0 = λ none. absurd (omega (arith, long, more, none)) in
    let heard = all_hearing line words stations in
    runs-some left line faults run o sent sent_after stations stations_after next is.sent
    (e3 ∙ ap (map (quieted line)) is.stations ∙ sym (some-after line words heard some)) (e4 ∙ ap (first_reply line) is.stations ∙ sym (some-next line words heard some))
