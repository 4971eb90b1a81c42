-- What an image is read as, by its parts.
use Rattle.std.proofs.Common.{◌≡◌, ℕ, ◌==◌, true, List, [], ◌∷◌, ◌++◌, length, Result, Ok, Err, Some, refl, sym, ap, ◌∙◌, arith}
use Rattle.std.specs.Prelude.{IfOk, nat_le}
use Rattle.std.specs.List.{flat_map}
use Rattle.std.proofs.lemmas.Bool.Decides.{nat_tests}
use Rattle.mil_word.specs.declared.Line.{Line}
use Rattle.mil_message.specs.declared.messages.Message.{Message}
use Rattle.mil_message.specs.Parts.{parts_of, request_at}
use Rattle.frame_code.specs.declared.error.ImageError.{ImageError}
use Rattle.frame_code.specs.declared.Op.{Op}
use Rattle.frame_code.specs.declared.error.ImageError.TheVariants as fault
use Rattle.frame_code.specs.Bytes.{version_for, two_bytes, line_number, parts_bytes, message_bytes}
use Rattle.frame_code.specs.Fields.{words_due}
use Rattle.frame_code.specs.Reading.{many, two_at, message_words_at, header_at, operation_at, message_at, message_with, image_of, Faults}
use Rattle.frame_code.proofs.Lawful.{parts}

pub image_reads : (v : ℕ) (bs r0 r1 : List ℕ) (n m : ℕ) (os : List Op) (ms : List (Line × Message)) → header_at bs ≡ Ok (v, n, m, r0) → many (operation_at v) n r0 ≡ Ok (os, r1) → many message_at m r1 ≡ Ok (ms, []) → nat_le v (version_for os) ≡ true → image_of bs ≡ Ok (record { operations = os; messages = ms })
unfolding image_of
image_reads v bs r0 r1 n m os ms h o k f = rw (h, o, k, f) refl

pub equal_true : (a b : ℕ) → a ≡ b → (a == b) ≡ true
equal_true a b e = grind (arith, nat_tests)

-- the data words are not read
pub words_fail : (form : ℕ) (line : Line) (first second : ℕ) (bs r : List ℕ) (count : ℕ) (e : ImageError) → two_at bs ≡ Ok (count, r) → count ≡ words_due form first → many two_at count r ≡ Err e → message_words_at form line first second bs ≡ Err e
unfolding message_words_at
words_fail form line first second bs r count e a d b = rw (a, equal_true count (words_due form first) d, b) refl

-- the message is read
pub words_read : (form : ℕ) (line : Line) (first second : ℕ) (bs r : List ℕ) (count : ℕ) (ws rest : List ℕ) (m : Message) → two_at bs ≡ Ok (count, r) → count ≡ words_due form first → many two_at count r ≡ Ok (ws, rest)
    → message_with (request_at (parts form first second ws)) ≡ Some m → message_words_at form line first second bs ≡ Ok ((line, m), rest)
unfolding message_words_at
words_read form line first second bs r count ws rest m a d b f = rw (a, equal_true count (words_due form first) d, b, f) refl

-- the bytes of a message
pub body_spelled : (form first second count : ℕ) (line : Line) (ws bs r rest : List ℕ) (m : Message) → parts_of m ≡ parts form first second ws → length ws ≡ count → bs ≡ two_bytes count ++ r → r ≡ flat_map two_bytes ws ++ rest
    → form ∷ line_number line ∷ two_bytes first ++ two_bytes second ++ bs ≡ message_bytes (line, m) ++ rest
body_spelled form first second count line ws bs r rest m same long e1 e2 =
    ap (λ z. form ∷ line_number line ∷ two_bytes first ++ two_bytes second ++ z) (e1 ∙ ap (λ z. two_bytes count ++ z) e2 ∙ ap (λ n. two_bytes n ++ (flat_map two_bytes ws ++ rest)) (sym long))
    ∙ ap (λ p. parts_bytes line p ++ rest) (sym same)

pub spelled_behind : {X : Type 0} (r : Result X ImageError) (f : X → List ℕ) (a b : List ℕ) → b ≡ a → IfOk r (λ x. a ≡ f x) → IfOk r (λ x. b ≡ f x)
spelled_behind (Ok x) f a b e h = e ∙ h
spelled_behind (Err y) f a b e h = h

pub none_left : (xs : List ℕ) → length xs ≡ 0 → xs ≡ []
none_left [] e = refl
none_left (x ∷ xs) e = absurd (omega arith)

pub operations_fail : (v : ℕ) (bs r0 : List ℕ) (n m : ℕ) (e : ImageError) → header_at bs ≡ Ok (v, n, m, r0) → many (operation_at v) n r0 ≡ Err e → image_of bs ≡ Err e
unfolding image_of
operations_fail v bs r0 n m e h o = rw (h, o) refl

pub messages_fail : (v : ℕ) (bs r0 r1 : List ℕ) (n m : ℕ) (os : List Op) (e : ImageError) → header_at bs ≡ Ok (v, n, m, r0) → many (operation_at v) n r0 ≡ Ok (os, r1) → many message_at m r1 ≡ Err e → image_of bs ≡ Err e
unfolding image_of
messages_fail v bs r0 r1 n m os e h o k = rw (h, o, k) refl

pub faults_through : {X Y : Type 0} (e : ImageError) (r : Result X ImageError) (s : Result Y ImageError) → (r ≡ Err e → s ≡ Err e) → Faults e r → Faults e s
faults_through fault.Mark r s f h = f h
faults_through fault.Length r s f h = f h
faults_through fault.Operations r s f h = f h
faults_through fault.Messages r s f h = f h
faults_through fault.Version r s f h = f h
faults_through fault.Memory r s f h = tt
