-- A status word, whatever its conditions are.
use Rattle.std.proofs.Common.{◌≡◌, ℕ, ◌+◌, ◌*◌, ◌/◌, ◌%◌, ◌^◌, ◌<◌, ◌≤◌, ◌==◌, Bool, true, false, ◌||◌, refl, ap, ◌∙◌, arith}
use Rattle.std.specs.Prelude.{codes}
use Rattle.mil_word.specs.Fields.{address_of, has_bit}
use Rattle.mil_terminal.specs.declared.conditions.Conditions.{Conditions}
use Rattle.mil_terminal.specs.History.{History}
use Rattle.mil_terminal.specs.Status.{bit_if, bits_of, status_word, conditions, status}

abbrev one_if : Bool → ℕ
one_if true = 1
one_if false = 0

one_small : (b : Bool) → one_if b ≤ 1
one_small true = omega arith
one_small false = omega arith

error-bit : (b : Bool) → bit_if b (codes "message_error") ≡ one_if b * 1024
error-bit true = refl
error-bit false = refl

service-bit : (b : Bool) → bit_if b (codes "service_request") ≡ one_if b * 256
service-bit true = refl
service-bit false = refl

broadcast-bit : (b : Bool) → bit_if b (codes "broadcast") ≡ one_if b * 16
broadcast-bit true = refl
broadcast-bit false = refl

busy-bit : (b : Bool) → bit_if b (codes "busy") ≡ one_if b * 8
busy-bit true = refl
busy-bit false = refl

subsystem-bit : (b : Bool) → bit_if b (codes "subsystem") ≡ one_if b * 4
subsystem-bit true = refl
subsystem-bit false = refl

control-bit : (b : Bool) → bit_if b (codes "control") ≡ one_if b * 2
control-bit true = refl
control-bit false = refl

terminal-bit : (b : Bool) → bit_if b (codes "terminal") ≡ one_if b
terminal-bit true = refl
terminal-bit false = refl

sum-of : (a b c d e f g : ℕ) (u v w x y z t : ℕ) → a ≡ u → b ≡ v → c ≡ w → d ≡ x → e ≡ y → f ≡ z → g ≡ t → a + b + c + d + e + f + g ≡ u + v + w + x + y + z + t
sum-of a b c d e f g u v w x y z t e1 e2 e3 e4 e5 e6 e7 = cc

-- the bits as a number below 2048 that has none at place 9
bits-are : (s : Conditions)
    → bits_of s ≡ one_if s.message_error * 1024 + one_if s.service_request * 256 + one_if s.broadcast * 16 + one_if s.busy * 8 + one_if s.subsystem * 4 + one_if s.control * 2 + one_if s.terminal
bits-are s = sum-of _ _ _ _ _ _ _ _ _ _ _ _ _ _ (error-bit s.message_error) (service-bit s.service_request) (broadcast-bit s.broadcast) (busy-bit s.busy) (subsystem-bit s.subsystem) (control-bit s.control) (terminal-bit s.terminal)

ninth : (m s b y u c t : ℕ) → s ≤ 1 → b ≤ 1 → y ≤ 1 → u ≤ 1 → c ≤ 1 → t ≤ 1 → (m * 1024 + s * 256 + b * 16 + y * 8 + u * 4 + c * 2 + t) / 2 ^ 9 % 2 ≡ 0
ninth m s b y u c t s1 b1 y1 u1 c1 t1 = omega (arith, s1, b1, y1, u1, c1, t1)

no-ninth : (s : Conditions) → bits_of s / 2 ^ 9 % 2 ≡ 0
no-ninth s =
    ap (λ n. n / 2 ^ 9 % 2) (bits-are s)
    ∙ ninth (one_if s.message_error) (one_if s.service_request) (one_if s.broadcast) (one_if s.busy) (one_if s.subsystem) (one_if s.control) (one_if s.terminal)
    (one_small s.service_request) (one_small s.broadcast) (one_small s.busy) (one_small s.subsystem) (one_small s.control) (one_small s.terminal)

-- eight digits of two at places of a status word
abbrev word_with : ℕ → ℕ → ℕ → ℕ → ℕ → ℕ → ℕ → ℕ → ℕ → ℕ
word_with own m i s b y u c t = own * 2 ^ 11 + m * 2 ^ 10 + i * 2 ^ 9 + s * 2 ^ 8 + b * 2 ^ 4 + y * 2 ^ 3 + u * 2 ^ 2 + c * 2 ^ 1 + t * 2 ^ 0

module _ (own m s b y u c t : ℕ) (m1 : m ≤ 1) (s1 : s ≤ 1) (b1 : b ≤ 1) (y1 : y ≤ 1) (u1 : u ≤ 1) (c1 : c ≤ 1) (t1 : t ≤ 1) where
  below : own ≤ 30 → word_with own m 0 s b y u c t < 2 ^ 16
  below low = omega (arith, low, m1, s1, b1, y1, u1, c1, t1)

  address : word_with own m 0 s b y u c t / 2 ^ 11 ≡ own
  address = omega (arith, m1, s1, b1, y1, u1, c1, t1)

  bit9 : word_with own m 0 s b y u c t / 2 ^ 9 % 2 ≡ 0
  bit9 = omega (arith, m1, s1, b1, y1, u1, c1, t1)

  bit7 : word_with own m 0 s b y u c t / 2 ^ 7 % 2 ≡ 0
  bit7 = omega (arith, m1, s1, b1, y1, u1, c1, t1)

  bit6 : word_with own m 0 s b y u c t / 2 ^ 6 % 2 ≡ 0
  bit6 = omega (arith, m1, s1, b1, y1, u1, c1, t1)

  bit5 : word_with own m 0 s b y u c t / 2 ^ 5 % 2 ≡ 0
  bit5 = omega (arith, m1, s1, b1, y1, u1, c1, t1)

two : (n : ℕ) → n % 2 ≤ 1
two n = omega arith

pub record IsStatus (own word : ℕ) : Type 0 where
  pub below : word < 2 ^ 16
  pub address : address_of word ≡ own
  pub reserved : (has_bit 9 word || has_bit 7 word || has_bit 6 word || has_bit 5 word) ≡ false

at : ℕ → ℕ → ℕ
at bits place = bits / 2 ^ place % 2

status-by : (own n i : ℕ) → own ≤ 30 → n / 2 ^ 9 % 2 ≡ i → i ≡ 0 → IsStatus own (word_with own (n / 2 ^ 10 % 2) i (n / 2 ^ 8 % 2) (n / 2 ^ 4 % 2) (n / 2 ^ 3 % 2) (n / 2 ^ 2 % 2) (n / 2 ^ 1 % 2) (n / 2 ^ 0 % 2))
status-by own n i low is none =
    let m1 = two (n / 2 ^ 10) in
    let s1 = two (n / 2 ^ 8) in
    let b1 = two (n / 2 ^ 4) in
    let y1 = two (n / 2 ^ 3) in
    let u1 = two (n / 2 ^ 2) in
    let c1 = two (n / 2 ^ 1) in
    let t1 = two (n / 2 ^ 0) in
    let e9 = bit9 own (n / 2 ^ 10 % 2) (n / 2 ^ 8 % 2) (n / 2 ^ 4 % 2) (n / 2 ^ 3 % 2) (n / 2 ^ 2 % 2) (n / 2 ^ 1 % 2) (n / 2 ^ 0 % 2) m1 s1 b1 y1 u1 c1 t1 in
    let e7 = bit7 own (n / 2 ^ 10 % 2) (n / 2 ^ 8 % 2) (n / 2 ^ 4 % 2) (n / 2 ^ 3 % 2) (n / 2 ^ 2 % 2) (n / 2 ^ 1 % 2) (n / 2 ^ 0 % 2) m1 s1 b1 y1 u1 c1 t1 in
    let e6 = bit6 own (n / 2 ^ 10 % 2) (n / 2 ^ 8 % 2) (n / 2 ^ 4 % 2) (n / 2 ^ 3 % 2) (n / 2 ^ 2 % 2) (n / 2 ^ 1 % 2) (n / 2 ^ 0 % 2) m1 s1 b1 y1 u1 c1 t1 in
    let e5 = bit5 own (n / 2 ^ 10 % 2) (n / 2 ^ 8 % 2) (n / 2 ^ 4 % 2) (n / 2 ^ 3 % 2) (n / 2 ^ 2 % 2) (n / 2 ^ 1 % 2) (n / 2 ^ 0 % 2) m1 s1 b1 y1 u1 c1 t1 in
    let w = word_with own (n / 2 ^ 10 % 2) 0 (n / 2 ^ 8 % 2) (n / 2 ^ 4 % 2) (n / 2 ^ 3 % 2) (n / 2 ^ 2 % 2) (n / 2 ^ 1 % 2) (n / 2 ^ 0 % 2) in
    rw none (record {
      below = below own (n / 2 ^ 10 % 2) (n / 2 ^ 8 % 2) (n / 2 ^ 4 % 2) (n / 2 ^ 3 % 2) (n / 2 ^ 2 % 2) (n / 2 ^ 1 % 2) (n / 2 ^ 0 % 2) m1 s1 b1 y1 u1 c1 t1 low;
      address = address own (n / 2 ^ 10 % 2) (n / 2 ^ 8 % 2) (n / 2 ^ 4 % 2) (n / 2 ^ 3 % 2) (n / 2 ^ 2 % 2) (n / 2 ^ 1 % 2) (n / 2 ^ 0 % 2) m1 s1 b1 y1 u1 c1 t1;
      reserved = none-of (w / 2 ^ 9 % 2) (w / 2 ^ 7 % 2) (w / 2 ^ 6 % 2) (w / 2 ^ 5 % 2) e9 e7 e6 e5;
    })
  where
    none-of : (a b c d : ℕ) → a ≡ 0 → b ≡ 0 → c ≡ 0 → d ≡ 0 → (a == 1 || b == 1 || c == 1 || d == 1) ≡ false
    none-of a b c d ea eb ec ed = rw (ea, eb, ec, ed) refl

-- the status word of a terminal
pub is-status : (own : ℕ) (s : Conditions) → own ≤ 30 → IsStatus own (status_word own s)
is-status own s low = status-by own (bits_of s) (bits_of s / 2 ^ 9 % 2) low refl (no-ninth s)

pub status-is : (own : ℕ) (h : History) → own ≤ 30 → IsStatus own (status own h)
unfolding status
status-is own h low = is-status own (conditions own h) low
