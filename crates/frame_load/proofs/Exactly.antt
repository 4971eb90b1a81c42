-- A code breaks one rule first.
use Rattle.std.proofs.Common.{◌≡◌, Result, Ok, Err, refl, ap, subst}
use Rattle.std.specs.Prelude.{◌↔◌}
use Rattle.frame_code.specs.Table.{Code}
use Rattle.frame_load.specs.Judging.{Refuses, Judges, IsWithin, HasShortPeriods}
use Rattle.frame_code.specs.Loadable.{IsLoadable}
use Rattle.frame_load.specs.declared.error.LoadError.{LoadError}
use Rattle.frame_load.specs.declared.error.LoadError.TheVariants.{End, Routines, Nesting, Jumps, Messages, Budget, Memory, Periods}

one_refusal : (code : Code) (a b : LoadError) → Refuses code a → Refuses code b → a ≡ b
one_refusal code End End x y = refl
one_refusal code End Routines x y = absurd (x y.0)
one_refusal code End Nesting x y = absurd (x y.0)
one_refusal code End Jumps x y = absurd (x y.0)
one_refusal code End Messages x y = absurd (x y.0)
one_refusal code End Budget x y = absurd (x y.0.ends)
one_refusal code End Memory x y = absurd y
one_refusal code End Periods x y = absurd (x y.0.ends)
one_refusal code Routines End x y = absurd (y x.0)
one_refusal code Routines Routines x y = refl
one_refusal code Routines Nesting x y = absurd (x.1 y.1)
one_refusal code Routines Jumps x y = absurd (x.1 y.1)
one_refusal code Routines Messages x y = absurd (x.1 y.1)
one_refusal code Routines Budget x y = absurd (x.1 y.0.routines_ok)
one_refusal code Routines Memory x y = absurd y
one_refusal code Routines Periods x y = absurd (x.1 y.0.routines_ok)
one_refusal code Nesting End x y = absurd (y x.0)
one_refusal code Nesting Routines x y = absurd (y.1 x.1)
one_refusal code Nesting Nesting x y = refl
one_refusal code Nesting Jumps x y = absurd (x.2 y.2)
one_refusal code Nesting Messages x y = absurd (x.2 y.2)
one_refusal code Nesting Budget x y = absurd (x.2 y.0.nested)
one_refusal code Nesting Memory x y = absurd y
one_refusal code Nesting Periods x y = absurd (x.2 y.0.nested)
one_refusal code Jumps End x y = absurd (y x.0)
one_refusal code Jumps Routines x y = absurd (y.1 x.1)
one_refusal code Jumps Nesting x y = absurd (y.2 x.2)
one_refusal code Jumps Jumps x y = refl
one_refusal code Jumps Messages x y = absurd (x.3 y.3)
one_refusal code Jumps Budget x y = absurd (x.3 y.0.jumps)
one_refusal code Jumps Memory x y = absurd y
one_refusal code Jumps Periods x y = absurd (x.3 y.0.jumps)
one_refusal code Messages End x y = absurd (y x.0)
one_refusal code Messages Routines x y = absurd (y.1 x.1)
one_refusal code Messages Nesting x y = absurd (y.2 x.2)
one_refusal code Messages Jumps x y = absurd (y.3 x.3)
one_refusal code Messages Messages x y = refl
one_refusal code Messages Budget x y = absurd (x.4 y.0.messages)
one_refusal code Messages Memory x y = absurd y
one_refusal code Messages Periods x y = absurd (x.4 y.0.messages)
one_refusal code Budget End x y = absurd (y x.0.ends)
one_refusal code Budget Routines x y = absurd (y.1 x.0.routines_ok)
one_refusal code Budget Nesting x y = absurd (y.2 x.0.nested)
one_refusal code Budget Jumps x y = absurd (y.3 x.0.jumps)
one_refusal code Budget Messages x y = absurd (y.4 x.0.messages)
one_refusal code Budget Budget x y = refl
one_refusal code Budget Memory x y = absurd y
one_refusal code Budget Periods x y = absurd (x.1 y.1)
one_refusal code Memory End x y = absurd x
one_refusal code Memory Routines x y = absurd x
one_refusal code Memory Nesting x y = absurd x
one_refusal code Memory Jumps x y = absurd x
one_refusal code Memory Messages x y = absurd x
one_refusal code Memory Budget x y = absurd x
one_refusal code Memory Memory x y = absurd x
one_refusal code Memory Periods x y = absurd x
one_refusal code Periods End x y = absurd (y x.0.ends)
one_refusal code Periods Routines x y = absurd (y.1 x.0.routines_ok)
one_refusal code Periods Nesting x y = absurd (y.2 x.0.nested)
one_refusal code Periods Jumps x y = absurd (y.3 x.0.jumps)
one_refusal code Periods Messages x y = absurd (y.4 x.0.messages)
one_refusal code Periods Budget x y = absurd (y.1 x.1)
one_refusal code Periods Periods x y = refl
one_refusal code Periods Memory x y = absurd y

none_refuses : (code : Code) (e : LoadError) → IsLoadable code → IsWithin code → HasShortPeriods code → Refuses code e → ⊥
none_refuses code End ok within short r = r ok.ends
none_refuses code Routines ok within short r = r.1 ok.routines_ok
none_refuses code Nesting ok within short r = r.2 ok.nested
none_refuses code Jumps ok within short r = r.3 ok.jumps
none_refuses code Messages ok within short r = r.4 ok.messages
none_refuses code Budget ok within short r = r.1 within
none_refuses code Memory ok within short r = r
none_refuses code Periods ok within short r = r.2 short

pub exactly : (code : Code) (r : Result Code LoadError) (e : LoadError) → Judges code r → (r ≡ Err e) ↔ Refuses code e
exactly code (Ok p) e j = (λ no. absurd (cc), λ x. absurd (none_refuses code e j.1 j.2 j.3 x))
exactly code (Err a) e j = (λ same. let s : a ≡ e = cc in subst (Refuses code) s j, λ x. ap Err (one_refusal code a e j x))
