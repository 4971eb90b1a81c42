use Rattle.std.proofs.Common.{OnOk, string_bytes, List, ℕ, Option, Some, [], false, ap, ◌∙◌, subst}
use Rattle.std.specs.Prelude.{option_map}
use Rattle.std.specs.Fmt.{AppendsText, styled_digits_output, format_spec, padded_integral}
use Rattle.bench_check.specs.MistakeLines.{mask_text}
use Rattle.bench_check.proofs.planned.put_mask.Goals as goal

-- what the digits are padded to
abbrev padded : List ℕ → List ℕ
padded ds = padded_integral (format_spec 32 0 4 10 18446744073709551615) false [] ds

pub returns : goal.returns
returns c =
    let P : Option (List ℕ) → Type 0 = λ o. OnOk c.write.result (AppendsText (string_bytes c.args.text.now) (string_bytes c.write.new.self) o) in
    subst P (ap (styled_digits_output c.in_radix.result) c.laid_out.ensures ∙ ap (option_map padded) c.in_radix.ensures ∙ ap (λ n. Some (mask_text n)) c.half_bits.ensures.value) c.write.ensures.bytes
