-- The whole exchange, from its parts.
use Rattle.std.proofs.Common.{◌≡◌, ℕ, List, [], ◌∷◌, refl, ap, Some}
use Rattle.arrayvec.specs.ArrayVec.{ArrayVec}
use Rattle.mil_word.specs.declared.Line.{Line}
use Rattle.mil_message.specs.declared.forms.Form.{Form}
use Rattle.mil_message.specs.Forms.{controller_waves}
use Rattle.mil_line.specs.declared.faults.Fault.{Fault}
use Rattle.mil_bus.specs.declared.talks.Source.TheVariants.{Controller}
use Rattle.mil_bus.specs.declared.talks.Sent.{Sent}
use Rattle.mil_bus.specs.declared.talks.Talk.{Talk}
use Rattle.mil_terminal.specs.Station.{Station}
use Rattle.mil_bus.specs.Exchange.{Standing, BusState, talk_start, last_on, gap_since, runs, exchange_of, talk_of, exchanged}

pub exchange_is : (b : BusState) (line : Line) (m : Form) (gap : ℕ) (faults : List Fault) (tick g : ℕ) (waves : List ℕ) (sent : List Sent) (stations : List Station) (s : Standing)
    → tick ≡ talk_start b gap → g ≡ gap_since (last_on line b.talks) tick → waves ≡ controller_waves m → sent ≡ [] → stations ≡ b.stations
    → s ≡ runs 40 line faults 0 (Some (record { source = Controller; gap = g; waves = waves })) (record { sent = sent; stations = stations })
    → s ≡ exchange_of b line m gap faults
unfolding exchange_of
exchange_is b line m gap faults tick g waves sent stations s e1 e2 e3 e4 e5 e = rw (e, e5, e4, e3, e2, e1) refl

pub talk_is : (b : BusState) (line : Line) (m : Form) (gap : ℕ) (faults : List Fault) (tick : ℕ) (sent : ArrayVec Sent)
    → tick ≡ talk_start b gap → sent.items ≡ (exchange_of b line m gap faults).sent
    → (let t : Talk = record { start = tick; line = line; message = m; sent = sent } in t) ≡ talk_of b line m gap faults
unfolding talk_of
talk_is b line m gap faults tick sent e1 e2 = rw e1 (ap (λ xs. let t : Talk = record { start = talk_start b gap; line = line; message = m; sent = record { items = xs } } in t) e2)

pub bench_is : (b : BusState) (line : Line) (m : Form) (gap : ℕ) (faults : List Fault) (start least_start : ℕ) (talk : Talk) (talks : List Talk) (stations : List Station)
    → start ≡ b.start → least_start ≡ b.least_start → talk ≡ talk_of b line m gap faults → talks ≡ b.talks → stations ≡ (exchange_of b line m gap faults).stations
    → (let c : BusState = record { start = start; least_start = least_start; talks = talk ∷ talks; stations = stations } in c) ≡ exchanged b line m gap faults
unfolding exchanged
bench_is b line m gap faults start least_start talk talks stations e1 e2 e3 e4 e5 = rw (e1, e2, e3, e4, e5) refl
