-- Places are told apart by their order.
use Rattle.std.proofs.Common.{◌≡◌, ℕ, ◌-◌, ◌<◌, refl, arith}
use Rattle.controller_host.specs.declared.destinations.Destination.{Destination}
use Rattle.controller_host.specs.declared.destinations.Destination.TheVariants.{Terminal, All, Mode, ModeToAll}
use Rattle.controller_host.specs.Destinations.{IsPlace}
use Rattle.controller_host.specs.Places.{order_of, all_places}

pub order_high : (d : Destination) (i : ℕ) → IsPlace d i → order_of d i < all_places
unfolding order_of
order_high (Terminal a s) i is = omega (arith, is.destination.0, is.destination.1.0, is.destination.1.1, is.low, is.high)
order_high (All s) i is = omega (arith, is.destination.0, is.destination.1, is.low, is.high)
order_high (Mode a c) i is = omega (arith, is.destination.0, is.destination.1.0, is.destination.1.1)
order_high (ModeToAll c) i is = omega (arith, is.destination.0, is.destination.1)

-- places of one order are the same place
pub same_order : (d e : Destination) (i j : ℕ) → IsPlace d i → IsPlace e j → order_of d i ≡ order_of e j → (d ≡ e) × (i ≡ j)
unfolding order_of
same_order (Terminal a s) (Terminal b t) i j is it e =
    let address : a ≡ b = omega (arith, e, is.destination.1.0, is.destination.1.1, it.destination.1.0, it.destination.1.1, is.low, is.high, it.low, it.high) in
    let sub : s ≡ t = omega (arith, e, is.destination.1.0, is.destination.1.1, it.destination.1.0, it.destination.1.1, is.low, is.high, it.low, it.high) in
    (rw (address, sub) refl, omega (arith, e, is.destination.1.0, is.destination.1.1, it.destination.1.0, it.destination.1.1, is.low, is.high, it.low, it.high))
same_order (Terminal a s) (All t) i j is it e = absurd (omega (arith, e, is.destination.0, is.destination.1.0, is.destination.1.1, it.destination.0, is.low, is.high, it.low))
same_order (Terminal a s) (Mode b c) i j is it e = absurd (omega (arith, e, is.destination.0, is.destination.1.0, is.destination.1.1, is.low, is.high))
same_order (Terminal a s) (ModeToAll c) i j is it e = absurd (omega (arith, e, is.destination.0, is.destination.1.0, is.destination.1.1, is.low, is.high))
same_order (All s) (Terminal b t) i j is it e = absurd (omega (arith, e, it.destination.0, it.destination.1.0, it.destination.1.1, is.destination.0, it.low, it.high, is.low))
same_order (All s) (All t) i j is it e =
    let sub : s ≡ t = omega (arith, e, is.destination.0, is.destination.1, it.destination.0, it.destination.1, is.low, is.high, it.low, it.high) in
    (rw sub refl, omega (arith, e, is.destination.0, it.destination.0, is.low, is.high, it.low, it.high))
same_order (All s) (Mode b c) i j is it e = absurd (omega (arith, e, is.destination.0, is.destination.1, is.low, is.high))
same_order (All s) (ModeToAll c) i j is it e = absurd (omega (arith, e, is.destination.0, is.destination.1, is.low, is.high))
same_order (Mode a c) (Terminal b t) i j is it e = absurd (omega (arith, e, it.destination.0, it.destination.1.0, it.destination.1.1, it.low, it.high))
same_order (Mode a c) (All t) i j is it e = absurd (omega (arith, e, it.destination.0, it.destination.1, it.low, it.high))
same_order (Mode a c) (Mode b k) i j is it e =
    let address : a ≡ b = omega (arith, e, is.destination.1.0, is.destination.1.1, it.destination.1.0, it.destination.1.1) in
    let code : c ≡ k = omega (arith, e, address, is.destination.1.0, is.destination.1.1, is.destination.1.2, is.destination.1.3, it.destination.1.0, it.destination.1.1, it.destination.1.2, it.destination.1.3) in
    (rw (address, code) refl, omega (arith, is.low, is.high, it.low, it.high))
same_order (Mode a c) (ModeToAll k) i j is it e = absurd (omega (arith, e, is.destination.0, is.destination.1.0, is.destination.1.1, it.destination.0, it.destination.1))
same_order (ModeToAll c) (Terminal b t) i j is it e = absurd (omega (arith, e, it.destination.0, it.destination.1.0, it.destination.1.1, it.low, it.high))
same_order (ModeToAll c) (All t) i j is it e = absurd (omega (arith, e, it.destination.0, it.destination.1, it.low, it.high))
same_order (ModeToAll c) (Mode b k) i j is it e = absurd (omega (arith, e, it.destination.0, it.destination.1.0, it.destination.1.1, is.destination.0, is.destination.1))
same_order (ModeToAll c) (ModeToAll k) i j is it e =
    let code : c ≡ k = omega (arith, e, is.destination.0, is.destination.1, is.destination.2, is.destination.3, it.destination.0, it.destination.1, it.destination.2, it.destination.3) in
    (rw code refl, omega (arith, is.low, is.high, it.low, it.high))
