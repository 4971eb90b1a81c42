-- What a bus keeps beside its stations, after an event.
use Rattle.std.proofs.Common.{◌≡◌, ℕ, ◌<◌, ◌≤◌, List, [], map, length, get_or, refl, ap, ◌∙◌, arith, slice_index}
use Rattle.std.specs.Prelude.{Bool, true, false, if◌then◌else◌}
use Rattle.std.proofs.lemmas.List.{get_or-map, length-map}
use Rattle.mil_word.specs.declared.Line.{Line}
use Rattle.mil_word.specs.Fields.{field_values}
use Rattle.mil_terminal.specs.declared.events.Event.TheVariants.{Heard, Quiet}
use Rattle.mil_terminal.specs.Station.{Station, after}
use Rattle.mil_bus.specs.declared.talks.Sent.{Sent}
use Rattle.mil_terminal.specs.Host.{is_deaf}
use Rattle.mil_bus.specs.Exchange.{hearing, misses, quieted}
use Rattle.mil_bus.specs.Index.{IsAddressIndex, IsIndexBelow}

-- hearing changes no address
pub hearing-own : (line : Line) (w : Sent) (s : Station) → (hearing line w s).own ≡ s.own
hearing-own line w s = go (misses line w.source s)
  where
    go : (b : Bool) → (if b then s else after s (Heard line w.wave w.gap)).own ≡ s.own
    go true = refl
    go false = refl

-- nor does a quiet
pub quieted-own : (line : Line) (s : Station) → (quieted line s).own ≡ s.own
quieted-own line s = go (is_deaf line s.history)
  where
    go : (b : Bool) → (if b then s else after s (Quiet line)).own ≡ s.own
    go true = refl
    go false = refl

pub index-map : (f : Station → Station) (places : List ℕ) (xs : List Station) → ((s : Station) → (f s).own ≡ s.own) → IsAddressIndex places xs → IsAddressIndex places (map f xs)
index-map f places xs same is =
    let at : (k : ℕ) (d : Station) → k < length xs → (get_or (map f xs) k d).own ≡ (get_or xs k d).own =
    λ k d lt. ap (λ (s : Station). s.own) (get_or-map f xs k d d lt) ∙ same (get_or xs k d) in
    record {
      long = is.long;
      few = omega (arith, is.few, length-map xs f);
      low = λ k d lt. let here : k < length xs = omega (arith, length-map xs f) in rw (at k d here) (is.low k d here);
      stands = λ k d lt. let here : k < length xs = omega (arith, length-map xs f) in ap (slice_index places) (at k d here) ∙ is.stands k d here;
    }

pub index-none : (places : List ℕ) → length places ≡ field_values → IsIndexBelow 0 places []
index-none places long = record {
  long = long;
  few = omega arith;
  low = λ k d lt. absurd (omega arith);
  stands = λ k d lt. absurd (omega arith);
}

pub index-whole : (places : List ℕ) (xs : List Station) (own : ℕ) → own ≤ 31 → IsIndexBelow own places xs → IsAddressIndex places xs
index-whole places xs own le is = record {
  long = is.long;
  few = omega (arith, is.few);
  low = λ k d lt. omega (arith, is.low k d lt);
  stands = is.stands;
}
