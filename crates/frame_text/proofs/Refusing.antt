-- Want of memory, and what is answered then.
use Rattle.std.proofs.Common.{◌≡◌, ℕ, List, Result, Ok, Err, sym, ap, ap₂, ◌∙◌}
use Rattle.frame_text.specs.Places.{placed, HasPlaceOfFault, TellsFault}
use Rattle.frame_text.specs.Reading.{Failure, cause_alone, FailsReadingTokens, Breaks, HasNoFault, IsOfText, IsLocated, RefusesScript}
use Rattle.frame_text.specs.declared.faults.TextFault.{TextFault}
use Rattle.frame_text.specs.declared.faults.TextFault.TheVariants as fault
use Rattle.frame_text.specs.declared.faults.ScriptError.{ScriptError}
use Rattle.frame_text.specs.declared.faults.ScriptError.TheVariants as error

-- a fault of the text, whatever is known where memory was refused
pub of_text : (R : Type 0) {Y : Type 0} (f : TextFault) (read : Result Y Failure) → FailsReadingTokens f read → IsOfText f → Breaks R f read
of_text R (fault.Text c left) read e is = e
of_text R (fault.Memory left) read e is = absurd is

-- nothing needs to be known
pub unsure : (R : Type 0) {Y : Type 0} (f : TextFault) (read : Result Y Failure) → Breaks R f read → FailsReadingTokens f read
unsure R (fault.Text c left) read e = e
unsure R (fault.Memory left) read e = tt

-- memory was not refused
pub sure : (R : Type 0) {Y : Type 0} (f : TextFault) (read : Result Y Failure) → Breaks ⊥ f read → Breaks R f read
sure R (fault.Text c left) read e = e
sure R (fault.Memory left) read e = absurd e

-- the text was read once more
pub read_again : {Y : Type 0} (f : TextFault) (read : Result Y Failure) (y : Y) → FailsReadingTokens f read → read ≡ Ok y → Breaks (HasNoFault read) f read
read_again (fault.Text c left) read y e r = e
read_again (fault.Memory left) read y e r = (y, r)

-- what was read
pub alone : {Y : Type 0} (read : Result Y Failure) (y : Y) → read ≡ Ok y → cause_alone read ≡ Ok y
alone read y e = ap cause_alone e

-- with its cause
pub told : {Y : Type 0} (f : TextFault) (e : ScriptError) (read : Result Y Failure) → Breaks (HasNoFault read) f read → IsLocated f e → RefusesScript e (cause_alone read)
told (fault.Text c left) (error.Text d place) read r same = ap cause_alone r ∙ ap Err (sym same)
told (fault.Text c left) (error.Memory place) read r same = absurd same
told (fault.Memory left) (error.Text d place) read r same = absurd same
told (fault.Memory left) (error.Memory place) read r same = (r.0, ap cause_alone r.1)

-- with its cause, where it is a fault of the text
pub known : {Y : Type 0} (f : TextFault) (e : ScriptError) (read : Result Y Failure) → FailsReadingTokens f read → IsOfText f → IsLocated f e → RefusesScript e (cause_alone read)
known f e read r is same = told f e read (of_text (HasNoFault read) f read r is) same

-- with its cause and its place
pub there : {Y : Type 0} (text : List ℕ) (f : TextFault) (e : ScriptError) (read : Result Y Failure) → FailsReadingTokens f read → IsLocated f e → HasPlaceOfFault text f e → TellsFault text read e
there text (fault.Text c left) (error.Text d place) read r same place_is = ap (placed text) r ∙ sym (ap₂ (λ m p. Err (m, p)) same place_is)
there text (fault.Text c left) (error.Memory place) read r same place_is = absurd same
there text (fault.Memory left) (error.Text d place) read r same place_is = absurd same
there text (fault.Memory left) (error.Memory place) read r same place_is = tt

pub told_at : (R : Type 0) {Y : Type 0} (text : List ℕ) (f : TextFault) (e : ScriptError) (read : Result Y Failure) → Breaks R f read → IsLocated f e → HasPlaceOfFault text f e → TellsFault text read e
told_at R text f e read r same place_is = there text f e read (unsure R f read r) same place_is
