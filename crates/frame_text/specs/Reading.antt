-- What reading tokens from left to right comes to: what was read and the tokens after it, or the first fault.
use Rattle.std.specs.Prelude.{◌≡◌, ◌<◌, ℕ, Bool, false, ◌||◌, if◌then◌else◌, List, [], ◌∷◌, length}
use Rattle.std.specs.Prelude.{Result, Ok, Err, codes}
use Rattle.frame_text.specs.Tokens.{in_word, tokens}
use Rattle.frame_text.specs.declared.faults.Cause.{Cause}
use Rattle.frame_text.specs.declared.faults.Cause.TheVariants as cause
use Rattle.frame_text.specs.declared.faults.TextFault.{TextFault}
use Rattle.frame_text.specs.declared.faults.TextFault.TheVariants as fault
use Rattle.frame_text.specs.declared.faults.ScriptError.{ScriptError}
use Rattle.frame_text.specs.declared.faults.ScriptError.TheVariants as error
pub use Rattle.frame_tree.specs.Names.{same_bytes}

abbrev pub Tokens : Type 0
Tokens = List (List ℕ)

-- a fault: its cause, and how many tokens are left from its place on, where it stands at a token or at the end
abbrev pub Failure : Type 0
Failure = Cause × ℕ

-- the fault at the first of these tokens, at the end where there are none
abbrev pub fails : {X : Type 0} → Cause → Tokens → Result X Failure
fails c ts = Err (c, length ts)

-- what is known without a place fails at the first of these tokens
abbrev pub at_first : {X : Type 0} → Tokens → Result X Cause → Result X Failure
at_first ts (Ok x) = Ok x
at_first ts (Err c) = fails c ts

-- what was read, or the cause of the first fault alone
abbrev pub cause_alone : {X : Type 0} → Result X Failure → Result X Cause
cause_alone (Ok x) = Ok x
cause_alone (Err f) = Err f.0

-- an X and the tokens after it, or the first fault
abbrev pub TokenReading : Type 0 → Type 0
TokenReading X = Result (X × Tokens) Failure

infixl 10 ◌>>=◌
abbrev pub ◌>>=◌ : {X Y : Type 0} → Result X Failure → (X → Result Y Failure) → Result Y Failure
(Ok x) >>= f = f x
(Err e) >>= f = Err e

-- a fault of the text is the one that reading comes to; want of memory says nothing
abbrev pub FailsReadingTokens : {Y : Type 0} → TextFault → Result Y Failure → Type 0
FailsReadingTokens (fault.Text c left) read = read ≡ Err (c, left)
FailsReadingTokens (fault.Memory left) read = Unit {0}

-- what a call answered is what reading comes to, but for want of memory
abbrev pub ReadsTokens : {X Y : Type 0} → (X → Y) → Result X TextFault → Result Y Failure → Type 0
ReadsTokens view (Ok x) read = read ≡ Ok (view x)
ReadsTokens view (Err e) read = FailsReadingTokens e read

-- the same where this is known when memory was refused
abbrev pub Breaks : {Y : Type 0} → Type 0 → TextFault → Result Y Failure → Type 0
Breaks refused (fault.Text c left) read = read ≡ Err (c, left)
Breaks refused (fault.Memory left) read = refused

abbrev pub ReadsTokensInMemory : {X Y : Type 0} → Type 0 → (X → Y) → Result X TextFault → Result Y Failure → Type 0
ReadsTokensInMemory refused view (Ok x) read = read ≡ Ok (view x)
ReadsTokensInMemory refused view (Err e) read = Breaks refused e read

-- what a call made of a text is what reading its tokens comes to, and fewer of them are left
abbrev pub Makes : {X Y : Type 0} → Type 0 → (X → Y × Tokens) → (Tokens → TokenReading Y) → List ℕ → Result X TextFault
    → Type 0
Makes refused view reader text (Ok x) =
    (reader (tokens text) ≡ Ok (view x)) × (length (view x).1 < length (tokens text))
Makes refused view reader text (Err e) = Breaks refused e (reader (tokens text))

-- reading comes to no fault
abbrev pub HasNoFault : {Y F : Type 0} → Result Y F → Type 0
HasNoFault {Y} read = (y : Y) × (read ≡ Ok y)

-- The same of the public calls: want of memory is answered only where reading comes to no fault.
abbrev pub RefusesScript : {Y : Type 0} → ScriptError → Result Y Cause → Type 0
RefusesScript (error.Text c place) read = read ≡ Err c
RefusesScript (error.Memory place) read = HasNoFault read

abbrev pub ReadsScript : {X Y : Type 0} → (X → Y) → Result X ScriptError → Result Y Cause → Type 0
ReadsScript view (Ok x) read = read ≡ Ok (view x)
ReadsScript view (Err e) read = RefusesScript e read

abbrev pub is_word : List ℕ → Bool
is_word [] = false
is_word (b ∷ bs) = in_word b

-- the brackets { } ( ) [ ]
abbrev pub is_bracket : List ℕ → Bool
is_bracket w =
    same_bytes w (codes "{") || same_bytes w (codes "}") || same_bytes w (codes "(") || same_bytes w (codes ")")
    || same_bytes w (codes "[")
    || same_bytes w (codes "]")

-- the fault of a token that may not stand where it does: a byte that is in no token of the language, or a wrong token
abbrev pub misplaced : List ℕ → Cause
misplaced w = if is_word w || is_bracket w then cause.Token else cause.Byte

-- a token that has to stand here
unfoldable pub past : List ℕ → Tokens → Result Tokens Failure
past token [] = fails cause.End []
past token (w ∷ ts) = if same_bytes w token then Ok ts else fails (misplaced w) (w ∷ ts)

-- a reading of all tokens
unfoldable pub to_the_end : {X : Type 0} → X × Tokens → Result X Failure
to_the_end (x, []) = Ok x
to_the_end (x, (w ∷ ts)) = fails (misplaced w) (w ∷ ts)

-- the fault with this cause at the first of these tokens, at the end where there are none
abbrev pub IsFault : Cause → Tokens → TextFault → Type 0
IsFault c ts f = f ≡ fault.Text c (length ts)

-- a fault of the text, and not want of memory
abbrev pub IsOfText : TextFault → Type 0
IsOfText (fault.Text c left) = Unit {0}
IsOfText (fault.Memory left) = ⊥

abbrev pub IsTextError : ScriptError → Type 0
IsTextError (error.Text c place) = Unit {0}
IsTextError (error.Memory place) = ⊥

-- the same fault, with its place
abbrev pub IsLocated : TextFault → ScriptError → Type 0
IsLocated (fault.Text c left) (error.Text d place) = d ≡ c
IsLocated (fault.Memory left) (error.Memory place) = Unit {0}
IsLocated _ _ = ⊥
