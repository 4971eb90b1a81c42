-- The station with an address, and its place.
use Rattle.std.proofs.Common.{◌≡◌, ℕ, ◌<◌, ◌==◌, Bool, true, false, List, [], ◌∷◌, length, get_or, set, zero, suc, refl, sym, ap, arith, Option, Some, None}
use Rattle.std.specs.Prelude.{if◌then◌else◌}
use Rattle.std.specs.Option.{option_map}
use Rattle.mil_host.specs.declared.actions.Action.{Action}
use Rattle.mil_terminal.specs.declared.events.Event.TheVariants.{Host}
use Rattle.mil_terminal.specs.Station.{Station, after}
use Rattle.mil_bus.specs.Actions.{place_of, station_of, acting}

within_step : (b : Bool) (o : Option ℕ) (n k : ℕ) → ((j : ℕ) → o ≡ Some j → j < n) → (if b then Some 0 else option_map (λ j. suc j) o) ≡ Some k → k < suc n
within_step true o n k h e = let z : 0 ≡ k = cc in omega arith
within_step false None n k h e = cc
within_step false (Some j) n k h e = let z : suc j ≡ k = cc in let l : j < n = h j refl in omega arith

pub within : (address : ℕ) (ss : List Station) (k : ℕ) → place_of address ss ≡ Some k → k < length ss
within address [] k e = cc
within address (s ∷ ss) k e = within_step (s.own == address) (place_of address ss) (length ss) k (within address ss) e

none_step : (b : Bool) (o : Option ℕ) (x s : Station) (acted ss : List Station) → (o ≡ None → acted ≡ ss) → (if b then Some 0 else option_map (λ j. suc j) o) ≡ None → (if b then x ∷ ss else s ∷ acted) ≡ s ∷ ss
none_step true o x s acted ss h e = cc
none_step false None x s acted ss h e = ap (λ l. s ∷ l) (h refl)
none_step false (Some j) x s acted ss h e = cc

pub acting-none : (address : ℕ) (action : Action) (ss : List Station) → place_of address ss ≡ None → acting address action ss ≡ ss
acting-none address action [] e = refl
acting-none address action (s ∷ ss) e = none_step (s.own == address) (place_of address ss) (after s (Host action)) s (acting address action ss) ss (acting-none address action ss) e

zero_step : (b : Bool) (o : Option ℕ) (action : Action) (s d x : Station) (acted ss : List Station)
    → (if b then Some 0 else option_map (λ j. suc j) o) ≡ Some 0 → x ≡ after s (Host action) → (if b then after s (Host action) ∷ ss else s ∷ acted) ≡ x ∷ ss
zero_step true o action s d x acted ss e is = ap (λ y. y ∷ ss) (sym is)
zero_step false None action s d x acted ss e is = cc
zero_step false (Some j) action s d x acted ss e is = let z : suc j ≡ 0 = cc in absurd (omega arith)

some_step : (b : Bool) (o : Option ℕ) (action : Action) (s d x : Station) (acted ss : List Station) (k : ℕ)
    → ((j : ℕ) → o ≡ Some j → x ≡ after (get_or ss j d) (Host action) → acted ≡ set ss j x)
    → (if b then Some 0 else option_map (λ j. suc j) o) ≡ Some k → x ≡ after (get_or (s ∷ ss) k d) (Host action)
    → (if b then after s (Host action) ∷ ss else s ∷ acted) ≡ set (s ∷ ss) k x
some_step b o action s d x acted ss zero h e is = zero_step b o action s d x acted ss e is
some_step true o action s d x acted ss (suc k) h e is = let z : 0 ≡ suc k = cc in absurd (omega arith)
some_step false None action s d x acted ss (suc k) h e is = cc
some_step false (Some j) action s d x acted ss (suc k) h e is = let z : j ≡ k = cc in ap (λ l. s ∷ l) (h k (ap (λ n. Some n) z) is)

pub acting-some : (address : ℕ) (action : Action) (ss : List Station) (k : ℕ) (d x : Station) → place_of address ss ≡ Some k → x ≡ after (get_or ss k d) (Host action) → acting address action ss ≡ set ss k x
acting-some address action [] k d x e is = cc
acting-some address action (s ∷ ss) k d x e is = some_step (s.own == address) (place_of address ss) action s d x (acting address action ss) ss k (λ j f g. acting-some address action ss j d x f g) e is

station_step : (b : Bool) (o : Option ℕ) (s d : Station) (found : Option Station) (ss : List Station) (k : ℕ)
    → ((j : ℕ) → o ≡ Some j → found ≡ Some (get_or ss j d))
    → (if b then Some 0 else option_map (λ j. suc j) o) ≡ Some k → (if b then Some s else found) ≡ Some (get_or (s ∷ ss) k d)
station_step true o s d found ss zero h e = refl
station_step true o s d found ss (suc k) h e = let z : 0 ≡ suc k = cc in absurd (omega arith)
station_step false None s d found ss k h e = cc
station_step false (Some j) s d found ss zero h e = let z : suc j ≡ 0 = cc in absurd (omega arith)
station_step false (Some j) s d found ss (suc k) h e = let z : j ≡ k = cc in h k (ap (λ n. Some n) z)

pub station-some : (address : ℕ) (ss : List Station) (k : ℕ) (d : Station) → place_of address ss ≡ Some k → station_of address ss ≡ Some (get_or ss k d)
station-some address [] k d e = cc
station-some address (s ∷ ss) k d e = station_step (s.own == address) (place_of address ss) s d (station_of address ss) ss k (λ j f. station-some address ss j d f) e

none_there : (b : Bool) (o : Option ℕ) (s : Station) (found : Option Station) → (o ≡ None → found ≡ None) → (if b then Some 0 else option_map (λ j. suc j) o) ≡ None → (if b then Some s else found) ≡ None
none_there true o s found h e = cc
none_there false None s found h e = h refl
none_there false (Some j) s found h e = cc

pub station-none : (address : ℕ) (ss : List Station) → place_of address ss ≡ None → station_of address ss ≡ None
station-none address [] e = refl
station-none address (s ∷ ss) e = none_there (s.own == address) (place_of address ss) s (station_of address ss) (station-none address ss) e
