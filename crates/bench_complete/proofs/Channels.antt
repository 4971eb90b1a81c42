-- What holds of packets and of those of each channel.
use Rattle.std.proofs.Common.{◌≡◌, ◌⊎◌, inl, inr, ℕ, List, [], ◌∷◌, ◌++◌, refl, sym, subst}
use Rattle.std.specs.List.{AllByRecursion}
use Rattle.std.proofs.lemmas.Bool.{cases_eq}
use Rattle.bench_complete.specs.Pieces.{Piece}
use Rattle.bench_complete.specs.Merging.{of_channel, IsMerge}
use Rattle.bench_complete.proofs.Merged.{of_channel-same, of_channel-other}

module _ (P : Piece → Type 0) where
  abbrev All : List Piece → Type 0
  All ps = AllByRecursion P ps

  pub all_append : (ps qs : List Piece) → All ps → All qs → All (ps ++ qs)
  all_append [] qs a b = b
  all_append (p ∷ ps) qs a b = (a.0, all_append ps qs a.1 b)

  on_by : (channel : ℕ) (p : Piece) (ps : List Piece) → All (p ∷ ps) → All (of_channel channel ps) → (p.header.channel ≡ channel) ⊎ (p.header.channel ≡ channel → ⊥) → All (of_channel channel (p ∷ ps))
  on_by channel p ps all rest (inl same) = subst All (sym (of_channel-same channel p ps same)) (all.0, rest)
  on_by channel p ps all rest (inr ne) = subst All (sym (of_channel-other channel p ps ne)) rest

  pub all_on : (channel : ℕ) (ps : List Piece) → All ps → All (of_channel channel ps)
  all_on channel [] all = tt
  all_on channel (p ∷ ps) all = on_by channel p ps all (all_on channel ps all.1) (cases_eq p.header.channel channel)

  rest_by : (channel : ℕ) (p : Piece) (ps : List Piece) → All (of_channel channel (p ∷ ps)) → (p.header.channel ≡ channel) ⊎ (p.header.channel ≡ channel → ⊥) → All (of_channel channel ps)
  rest_by channel p ps all (inl same) =
      let both : All (p ∷ of_channel channel ps) = subst All (of_channel-same channel p ps same) all in
      both.1
  rest_by channel p ps all (inr ne) = subst All (of_channel-other channel p ps ne) all

  pub all_by_channels : (ps : List Piece) → ((channel : ℕ) → All (of_channel channel ps)) → All ps
  all_by_channels [] all = tt
  all_by_channels (p ∷ ps) all =
      let own : All (p ∷ of_channel p.header.channel ps) = subst All (of_channel-same p.header.channel p ps refl) (all p.header.channel) in
      (own.0, all_by_channels ps (λ channel. rest_by channel p ps (all channel) (cases_eq p.header.channel channel)))

  -- what holds of packets holds of others whose channels have the same
  pub all_same : (ps qs : List Piece) → ((channel : ℕ) → of_channel channel ps ≡ of_channel channel qs) → All ps → All qs
  all_same ps qs same all = all_by_channels qs (λ channel. subst All (same channel) (all_on channel ps all))

  pub all_merged : (parts merged : List Piece) → IsMerge parts merged → All parts → All merged
  all_merged parts merged m all = all_same parts merged (λ channel. sym (m.channels channel)) all
