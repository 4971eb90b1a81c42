-- What the printing of actions gives.
use Rattle.std.proofs.Common.{◌≡◌, ℕ, ◌<◌, true, false, [], ◌++◌, refl}
use Rattle.std.specs.Prelude.{codes, decimal}
use Rattle.std.specs.Fmt.{digits, padded_integral, format_spec}
use Rattle.std.specs.List.{flat_map}
use Rattle.std.proofs.lemmas.Fmt.{hex_byte}
use Rattle.std.proofs.lemmas.List.Folds.{flat_map-map}
use Rattle.mil_host.specs.Values.{PutUp}
use Rattle.numerals.specs.Numerals.{byte_text}
use Rattle.mil_host.specs.Printing.{data_text, spaced_word, spaced_data, action_text}
use Rattle.mil_host.specs.declared.actions.Action.TheVariants.{Transmit}

-- a byte in two hexadecimal digits
pub byte_written : (n : ℕ) → n < 256 → padded_integral (format_spec 32 0 4 2 18446744073709551615) false [] (digits 16 true n) ≡ byte_text n
byte_written n lt = hex_byte true n lt

-- words that are put up: the subaddress, and each data word behind a space
pub transmit_written : (put : PutUp) → action_text (Transmit put) ≡ codes "transmit " ++ (decimal put.sub ++ flat_map spaced_data put.words)
unfolding action_text
transmit_written put = rw (flat_map-map spaced_word data_text put.words) refl
