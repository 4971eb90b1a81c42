-- What is lost of each channel while its packets go over. Packets in front of one stand newest first.
use Rattle.std.specs.Prelude.{◌≡◌, ℕ, ◌+◌, ◌%◌, ◌<◌, Bool, false, ◌||◌, if◌then◌else◌, List, slice_index_or}
use Rattle.std.specs.Prelude.{Option, None, Some, option_map}
use Rattle.bench_cut.specs.Parts.{Part}
use Rattle.bench_cut.specs.Numbers.{is_owed, left_out, went_over}
use Rattle.bench_cut.specs.declared.losses.ChannelLoss.{ChannelLoss}

-- how many of its packets were left out behind the first that went over, as far as a byte counts, none where none did
abbrev pub lost_of : ℕ → List Part → Option ℕ
lost_of channel earlier = if went_over channel earlier then Some (left_out channel earlier % 256) else None

abbrev pub channel_loss : ℕ → List Part → ChannelLoss
channel_loss channel earlier = record { lost = lost_of channel earlier; owed = is_owed channel earlier }

abbrev pub no_loss : ChannelLoss
no_loss = record { lost = None; owed = false }

abbrev pub AreLosses : List Part → List ChannelLoss → Type 0
AreLosses earlier losses = (channel : ℕ) → channel < 65536
    → slice_index_or losses channel no_loss ≡ channel_loss channel earlier

-- ---- one more packet

abbrev pub or_nought : Option ℕ → ℕ
or_nought None = 0
or_nought (Some n) = n

abbrev pub loss_left_out : ChannelLoss → Bool → ChannelLoss
loss_left_out loss overflow = record {
  lost = option_map (λ (n : ℕ). (n + 1) % 256) loss.lost;
  owed = overflow || loss.owed;
}

abbrev pub loss_over : ChannelLoss → ChannelLoss
loss_over loss = record { lost = Some (or_nought loss.lost); owed = false }
