-- The definitions at a worked body: one message of five words.
use Rattle.std.specs.Prelude.{◌≡◌, List, [], ◌∷◌, ℕ, Ok, Err, take, refl}
use Rattle.ch11_f1.specs.declared.Record.{Record}
use Rattle.ch11_f1.specs.declared.error.BodyError.TheVariants.{Short, Odd, End}
use Rattle.ch11_f1.specs.BodyBytes.{head_bytes, record_bytes, body_bytes}
use Rattle.ch11_f1.specs.BodyReading.{message_at, messages_at, messages_in}
use Rattle.ch11_f1.specs.Again.{as_message}

abbrev received : Record
received = record { stamp = 0; block = 0; gaps = 0x50; words = record { items = 0x2823 ∷ 1 ∷ 2 ∷ 3 ∷ 0x2800 ∷ [] } }

-- the body with another byte in the place of the length of the bus words
abbrev body_with_size : ℕ → List ℕ
body_with_size size =
    1 ∷ 0 ∷ 0 ∷ 0x40 ∷ 0 ∷ 0 ∷ 0 ∷ 0 ∷ 0 ∷ 0 ∷ 0 ∷ 0 ∷ 0 ∷ 0 ∷ 0x50 ∷ 0 ∷ size ∷ 0
    ∷ 0x23 ∷ 0x28 ∷ 1 ∷ 0 ∷ 2 ∷ 0 ∷ 3 ∷ 0 ∷ 0 ∷ 0x28 ∷ []

message_is_written : body_bytes (received ∷ []) ≡ body_with_size 10
unfolding head_bytes record_bytes body_bytes
message_is_written = refl

message_is_read : messages_in (body_with_size 10) ≡ Ok (as_message received ∷ [])
unfolding message_at messages_at messages_in
message_is_read = refl

odd_length : messages_in (body_with_size 11) ≡ Err Odd
unfolding message_at messages_at messages_in
odd_length = refl

ends_inside : messages_in (body_with_size 12) ≡ Err End
unfolding message_at messages_at messages_in
ends_inside = refl

no_count : messages_in (take 2 (body_with_size 10)) ≡ Err Short
unfolding message_at messages_at messages_in
no_count = refl
