-- What is kept of each channel, with one packet more.
use Rattle.std.proofs.Common.{◌≡◌, ◌≢◌, ◌⊎◌, inl, inr, ℕ, ◌+◌, ◌-◌, ◌%◌, ◌<◌, Bool, true, false, not, cond, ◌&&◌, ◌||◌, List, [], ◌∷◌, ◌++◌, length, set, get_or, Option, None, Some, option_map, refl, sym, ap, ◌∙◌, arith}
use Rattle.std.proofs.lemmas.Bool.{cases_eq, eq-eqb, ne_eqb}
use Rattle.std.proofs.lemmas.List.{get_or-set_same, get_or-set_other}
use Rattle.ch11_header.specs.declared.header.Header.{Header}
use Rattle.ch11_header.specs.Flags.{has_overflow}
use Rattle.ch11_header.specs.HeaderBytes.{header_bytes}
use Rattle.bench_cut.specs.declared.losses.ChannelLoss.{ChannelLoss}
use Rattle.bench_cut.specs.Cut.{flags_with, header_behind, header_with, kept_header, kept_rest, piece_behind}
use Rattle.bench_cut.specs.Heads.{header_for}
use Rattle.bench_cut.specs.Losses.{AreLosses, channel_loss, loss_left_out, loss_over, lost_of, no_loss, or_nought}
use Rattle.bench_cut.specs.Numbers.{is_of, is_owed, left_out, went_over}
use Rattle.bench_cut.specs.Packets.{bytes_for}
use Rattle.bench_cut.specs.Parts.{Part, goes_over, loses}

both_false : (a b : Bool) → (a || b) ≡ false → b ≡ false
both_false true b e = cc
both_false false b e = e

and_false : (a b : Bool) → b ≡ false → (a && b) ≡ false
and_false true b e = e
and_false false b e = refl

-- none is left out in front of the first that goes over
pub none_left : (channel : ℕ) (earlier : List Part) → went_over channel earlier ≡ false → left_out channel earlier ≡ 0
none_left channel [] none = refl
none_left channel (p ∷ earlier) none =
    let before : went_over channel earlier ≡ false = both_false _ (went_over channel earlier) none in
    let one : ◌≡◌ {A = ℕ} (cond (is_of channel p && not (goes_over p) && went_over channel earlier) 1 0) 0 = ap (λ (b : Bool). cond b 1 0) (and_false (is_of channel p && not (goes_over p)) (went_over channel earlier) before) in
    omega (arith, one, none_left channel earlier before)

pub lost_number : (channel : ℕ) (earlier : List Part) → or_nought (lost_of channel earlier) ≡ left_out channel earlier % 256
lost_number channel earlier = by (went_over channel earlier) refl
  where
    by : (b : Bool) → went_over channel earlier ≡ b → or_nought (cond b (Some (left_out channel earlier % 256)) None) ≡ left_out channel earlier % 256
    by true e = refl
    by false e = omega (arith, none_left channel earlier e)

same_loss : (a b : Option ℕ) (c d : Bool) → a ≡ b → c ≡ d → ◌≡◌ {A = ChannelLoss} (record { lost = a; owed = c }) (record { lost = b; owed = d })
same_loss a b c d p q = rw (p, q) refl

-- ---- one more packet

module _ (p : Part) (earlier : List Part) where
  abbrev own : ℕ
  own = p.header.channel

  is_own : is_of own p ≡ true
  is_own = eq-eqb own own refl

  none_more : left_out own earlier ≡ 0 + left_out own earlier
  none_more = omega arith

  -- it goes over
  lost_over : goes_over p ≡ true → lost_of own (p ∷ earlier) ≡ Some (or_nought (lost_of own earlier))
  lost_over over = rw (is_own, over) (ap Some (sym (ap (λ (n : ℕ). n % 256) none_more) ∙ sym (lost_number own earlier)))

  owed_over : goes_over p ≡ true → is_owed own (p ∷ earlier) ≡ false
  owed_over over = rw (is_own, over) refl

  pub over_more : goes_over p ≡ true → channel_loss own (p ∷ earlier) ≡ loss_over (channel_loss own earlier)
  over_more over = same_loss _ _ _ _ (lost_over over) (owed_over over)

  -- it is left out
  lost_more : (went : Bool) (n : ℕ) → cond went (Some ((cond went 1 0 + n) % 256)) None ≡ option_map (λ (k : ℕ). (k + 1) % 256) (cond went (Some (n % 256)) None)
  lost_more true n = ap Some (omega arith)
  lost_more false n = refl

  lost_out : goes_over p ≡ false → lost_of own (p ∷ earlier) ≡ option_map (λ (k : ℕ). (k + 1) % 256) (lost_of own earlier)
  lost_out out = rw (is_own, out) (lost_more (went_over own earlier) (left_out own earlier))

  owed_out : goes_over p ≡ false → is_owed own (p ∷ earlier) ≡ (has_overflow p.header || is_owed own earlier)
  owed_out out = rw (is_own, out) refl

  pub out_more : goes_over p ≡ false → channel_loss own (p ∷ earlier) ≡ loss_left_out (channel_loss own earlier) (has_overflow p.header)
  out_more out = same_loss _ _ _ _ (lost_out out) (owed_out out)

  -- it is of another channel
  other_lost : (channel : ℕ) → is_of channel p ≡ false → lost_of channel (p ∷ earlier) ≡ lost_of channel earlier
  other_lost channel other =
      let more : 0 + left_out channel earlier ≡ left_out channel earlier = omega arith in
      rw other (ap (λ (n : ℕ). cond (went_over channel earlier) (Some (n % 256)) None) more)

  other_owed : (channel : ℕ) → is_of channel p ≡ false → is_owed channel (p ∷ earlier) ≡ is_owed channel earlier
  other_owed channel other = rw other refl

  other_same : (channel : ℕ) → is_of channel p ≡ false → channel_loss channel (p ∷ earlier) ≡ channel_loss channel earlier
  other_same channel other = same_loss _ _ _ _ (other_lost channel other) (other_owed channel other)

  put_by : (losses after : List ChannelLoss) (loss : ChannelLoss) (channel : ℕ) → channel < 65536 → own < length losses → after ≡ set losses own loss → loss ≡ channel_loss own (p ∷ earlier) → AreLosses earlier losses
      → (c : (channel ≡ own) ⊎ (channel ≢ own)) → get_or after channel no_loss ≡ channel_loss channel (p ∷ earlier)
  put_by losses after loss channel small place put is are (inl here) =
      ap (λ (ls : List ChannelLoss). get_or ls channel no_loss) put
      ∙ ap (λ (k : ℕ). get_or (set losses own loss) k no_loss) here
      ∙ get_or-set_same losses own loss no_loss place
      ∙ is
      ∙ ap (λ (k : ℕ). channel_loss k (p ∷ earlier)) (sym here)
  put_by losses after loss channel small place put is are (inr other) =
      ap (λ (ls : List ChannelLoss). get_or ls channel no_loss) put
      ∙ get_or-set_other losses own channel loss no_loss other
      ∙ are channel small
      ∙ sym (other_same channel (ne_eqb own channel (λ e. other (sym e))))

  pub losses_on : (losses after : List ChannelLoss) (loss : ChannelLoss) → own < length losses → after ≡ set losses own loss → loss ≡ channel_loss own (p ∷ earlier) → AreLosses earlier losses → AreLosses (p ∷ earlier) after
  losses_on losses after loss place put is are channel small = put_by losses after loss channel small place put is are (cases_eq channel own)

  -- ---- its header

  kept_number : (b : Bool) → (cond b (header_with p.header p.chosen) p.header).sequence ≡ p.header.sequence
  kept_number true = refl
  kept_number false = refl

  header_is : header_for (channel_loss own earlier) (kept_header p) ≡ header_behind earlier p
  header_is = ap (λ (n : ℕ). record (kept_header p) { sequence = n; flags = flags_with (is_owed own earlier) (kept_header p).flags })
      (ap (λ (n : ℕ). (n + (256 - or_nought (lost_of own earlier))) % 256) (kept_number (loses p)) ∙ ap (λ (n : ℕ). (p.header.sequence + (256 - n)) % 256) (lost_number own earlier))

  pub bytes_are : bytes_for (channel_loss own earlier) p ≡ (piece_behind earlier p).bytes
  bytes_are = ap (λ (h : Header). header_bytes h ++ kept_rest p) header_is
