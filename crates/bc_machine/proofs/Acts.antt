-- The actions placed at a message, and its exchange.
use Rattle.std.proofs.Common.{ap, ◌≡◌, ◌≤◌, ◌+◌, ◌∙◌, ℕ, suc, List, [], ◌∷◌, length, refl, sym, ap₂, max, arith}
use Rattle.mil_word.specs.declared.Line.{Line}
use Rattle.mil_message.specs.declared.forms.Form.{Form}
use Rattle.mil_line.specs.declared.faults.Fault.{Fault}
use Rattle.mil_bus.specs.declared.talks.Sent.{Sent}
use Rattle.mil_bus.specs.declared.talks.Talk.{Talk}
use Rattle.mil_bus.specs.Times.{end_of, end_from, lasting}
use Rattle.mil_bus.specs.Exchange.{BusState, exchanged, talk_of, clock_of, next_start, now_of}
use Rattle.bc_machine.specs.declared.placed.Placed.{Placed}
use Rattle.bc_machine.specs.declared.placed.HostAction.{HostAction}
use Rattle.bc_machine.specs.declared.placed.HostAction.TheVariants.{Terminal, Controller}
use Rattle.bc_machine.specs.Controller.{host_acted, all_acted, placed_at, ready}

one_talks : (a : HostAction) (b : BusState) → (host_acted b a).talks ≡ b.talks
one_talks (Terminal address action) b = refl
one_talks (Controller asked) b = refl

one_start : (a : HostAction) (b : BusState) → (host_acted b a).start ≡ b.start
one_start (Terminal address action) b = refl
one_start (Controller asked) b = refl

one_least : (a : HostAction) (b : BusState) → (host_acted b a).least_start ≡ b.least_start
one_least (Terminal address action) b = refl
one_least (Controller asked) b = refl

acted_talks : (ps : List Placed) (b : BusState) → (all_acted b ps).talks ≡ b.talks
acted_talks [] b = refl
acted_talks (p ∷ ps) b = acted_talks ps (host_acted b p.action) ∙ one_talks p.action b

acted_start : (ps : List Placed) (b : BusState) → (all_acted b ps).start ≡ b.start
acted_start [] b = refl
acted_start (p ∷ ps) b = acted_start ps (host_acted b p.action) ∙ one_start p.action b

-- no action moves the clock
pub ready_talks : (placed : List Placed) (number : ℕ) (b : BusState) → (ready placed number b).talks ≡ b.talks
unfolding ready
ready_talks placed number b = acted_talks (placed_at number placed) b

acted_least : (ps : List Placed) (b : BusState) → (all_acted b ps).least_start ≡ b.least_start
acted_least [] b = refl
acted_least (p ∷ ps) b = acted_least ps (host_acted b p.action) ∙ one_least p.action b

pub ready_least : (placed : List Placed) (number : ℕ) (b : BusState) → (ready placed number b).least_start ≡ b.least_start
unfolding ready
ready_least placed number b = acted_least (placed_at number placed) b

pub ready_start : (placed : List Placed) (number : ℕ) (b : BusState) → (ready placed number b).start ≡ b.start
unfolding ready
ready_start placed number b = acted_start (placed_at number placed) b

-- an exchange adds its talk
pub exchanged_talks : (b after : BusState) (line : Line) (message : Form) (gap : ℕ) (faults : List Fault) (talk : Talk) → after ≡ exchanged b line message gap faults → talk ≡ talk_of b line message gap faults → after.talks ≡ talk ∷ b.talks
unfolding exchanged
exchanged_talks b after line message gap faults talk is same = ap (λ (v : BusState). v.talks) is ∙ ap (λ t. t ∷ b.talks) (sym same)

-- a talk starts where the one before has ended, or later, and ends where it starts, or later
starts_after : (start : ℕ) (talks : List Talk) (gap : ℕ) → clock_of start talks ≤ next_start start talks gap
starts_after start [] gap = omega arith
starts_after start (t ∷ ts) gap = omega arith

ends_after : (place tick : ℕ) (sent : List Sent) → tick ≤ end_from place tick sent
ends_after place tick [] = omega arith
ends_after place tick (w ∷ ws) = omega (arith, ends_after (suc place) (tick + lasting place w.gap) ws)

pub talk_follows : (b : BusState) (line : Line) (message : Form) (gap : ℕ) (faults : List Fault) → now_of b ≤ (talk_of b line message gap faults).start
unfolding talk_of
talk_follows b line message gap faults = omega (arith, starts_after b.start b.talks gap)

pub talk_ends : (t : Talk) → t.start ≤ end_of t
talk_ends t = ends_after 0 t.start t.sent.items

pub ready_clock : (placed : List Placed) (number : ℕ) (b : BusState) → now_of (ready placed number b) ≡ now_of b
ready_clock placed number b = ap₂ max (ap₂ clock_of (ready_start placed number b) (ready_talks placed number b)) (ready_least placed number b)

-- what counts is which actions are placed at the number
pub ready_same : (number : ℕ) (ps qs : List Placed) (b : BusState) → placed_at number ps ≡ placed_at number qs → ready ps number b ≡ ready qs number b
unfolding ready
ready_same number ps qs b e = ap (all_acted b) e

-- where none is placed, none acts
pub ready_none : (number : ℕ) (ps : List Placed) (b : BusState) → length ps ≡ 0 → b ≡ ready ps number b
unfolding ready
ready_none number [] b none = refl
ready_none number (p ∷ ps) b none = absurd (omega (arith, none))
