-- Recordings with equal parts are completed to the same file.
use Rattle.std.proofs.Common.{◌≡◌, ℕ, suc, ◌+◌, ◌≤◌, min, max, List, [], ◌∷◌, ◌++◌, Option, None, Some, option_map, refl, sym, ap, subst, ◌∙◌, arith}
use Rattle.std.specs.List.{AllByRecursion}
use Rattle.std.proofs.lemmas.List.Elements.{filter-append}
use Rattle.ch11_reader.specs.Recording.{Found}
use Rattle.bench_complete.specs.declared.additions.Additions.{Additions}
use Rattle.bench_complete.specs.declared.additions.UtcSecond.{UtcSecond}
use Rattle.bench_complete.specs.declared.extent.Extent.{Extent}
use Rattle.bench_complete.specs.declared.times.Times.{Times}
use Rattle.bench_complete.specs.Pieces.{Piece, bytes_of, kept_packets, leading, behind_leading}
use Rattle.bench_complete.specs.Merging.{of_channel, IsMerge}
use Rattle.bench_complete.specs.TimePackets.{times_in}
use Rattle.bench_complete.specs.Complete.{IsComplete, plan_of, plan_for, extent_behind, extent_of, front_of, low_of, times_between}
use Rattle.bench_complete.specs.Laws.{AddEqually, EqualPartsEqualFiles, HaveEqualParts}
use Rattle.bench_complete.proofs.Unique.{merge_is_unique}
use Rattle.bench_complete.proofs.Channels.{all_same}
use Rattle.bench_complete.proofs.Front.{same_behind}

-- ---- the lowest and the highest counter

abbrev IsIn : ℕ → ℕ → Piece → Type 0
IsIn low high p = (low ≤ p.header.counter) × (p.header.counter ≤ high)

abbrev AreIn : ℕ → ℕ → List Piece → Type 0
AreIn low high ps = AllByRecursion (IsIn low high) ps

-- all are in bounds that the extent is in
into : (low high : ℕ) (y e : Extent) (ps : List Piece) → extent_behind (Some y) ps ≡ Some e → low ≤ e.low → e.high ≤ high → (low ≤ y.low) × (y.high ≤ high) × AreIn low high ps
into low high y e [] is least most =
    let same : y ≡ e = cc in
    (omega (arith, least, ap (λ (x : Extent). x.low) same), omega (arith, most, ap (λ (x : Extent). x.high) same), tt)
into low high y e (p ∷ ps) is least most =
    let r = into low high (record { low = min y.low p.header.counter; high = max y.high p.header.counter }) e ps is least most in
    (omega (arith, r.0), omega (arith, r.1), ((omega (arith, r.0), omega (arith, r.1)), r.2))

all_in : (e : Extent) (ps : List Piece) → extent_of ps ≡ Some e → AreIn e.low e.high ps
all_in e [] is = tt
all_in e (p ∷ ps) is =
    let r = into e.low e.high (record { low = p.header.counter; high = p.header.counter }) e ps is (omega arith) (omega arith) in
    ((r.0, r.1), r.2)

-- the extent is in bounds that all are in
out : (low high : ℕ) (y e : Extent) (ps : List Piece) → extent_behind (Some y) ps ≡ Some e → low ≤ y.low → y.high ≤ high → AreIn low high ps → (low ≤ e.low) × (e.high ≤ high)
out low high y e [] is least most all =
    let same : y ≡ e = cc in
    (omega (arith, least, ap (λ (x : Extent). x.low) same), omega (arith, most, ap (λ (x : Extent). x.high) same))
out low high y e (p ∷ ps) is least most all =
    out low high (record { low = min y.low p.header.counter; high = max y.high p.header.counter }) e ps is (omega (arith, least, all.0.0)) (omega (arith, most, all.0.1)) all.1

within : (low high : ℕ) (e : Extent) (ps : List Piece) → extent_of ps ≡ Some e → AreIn low high ps → (low ≤ e.low) × (e.high ≤ high)
within low high e [] is all = absurd (cc)
within low high e (p ∷ ps) is all = out low high (record { low = p.header.counter; high = p.header.counter }) e ps is all.0.0 all.0.1 all.1

some_behind : (y : Extent) (ps : List Piece) → extent_behind (Some y) ps ≡ None → ⊥
some_behind y [] is = cc
some_behind y (p ∷ ps) is = some_behind (record { low = min y.low p.header.counter; high = max y.high p.header.counter }) ps is

none_is : (ps : List Piece) → extent_of ps ≡ None → ps ≡ []
none_is [] is = refl
none_is (p ∷ ps) is = absurd (some_behind (record { low = p.header.counter; high = p.header.counter }) ps is)

abbrev Same : List Piece → List Piece → Type 0
Same ps qs = (channel : ℕ) → of_channel channel ps ≡ of_channel channel qs

-- no packets have the extent of some
no_extent : (e : Extent) (ps qs : List Piece) → Same ps qs → extent_of ps ≡ None → extent_of qs ≡ Some e → ⊥
no_extent e ps qs same none is =
    let empty : AreIn (suc e.low) 0 qs = all_same (IsIn (suc e.low) 0) ps qs same (subst (AreIn (suc e.low) 0) (sym (none_is ps none)) tt) in
    let w = within (suc e.low) 0 e qs is empty in
    omega (arith, w.0)

two : (d e : Extent) → d.low ≤ e.low → e.low ≤ d.low → d.high ≤ e.high → e.high ≤ d.high → d ≡ e
two d e a b c f =
    let low : d.low ≡ e.low = omega (arith, a, b) in
    let high : d.high ≡ e.high = omega (arith, c, f) in
    ap (λ (k : ℕ). record { low = k; high = d.high }) low ∙ ap (λ (k : ℕ). record { low = e.low; high = k }) high

same_by : (ps qs : List Piece) (x y : Option Extent) → Same ps qs → extent_of ps ≡ x → extent_of qs ≡ y → x ≡ y
same_by ps qs None None same a b = refl
same_by ps qs None (Some e) same a b = absurd (no_extent e ps qs same a b)
same_by ps qs (Some d) None same a b = absurd (no_extent d qs ps (λ k. sym (same k)) b a)
same_by ps qs (Some d) (Some e) same a b =
    let v = within d.low d.high e qs b (all_same (IsIn d.low d.high) ps qs same (all_in d ps a)) in
    let w = within e.low e.high d ps a (all_same (IsIn e.low e.high) qs ps (λ k. sym (same k)) (all_in e qs b)) in
    ap (λ (z : Extent). Some z) (two d e v.0 w.0 w.1 v.1)

pub same_extent : (ps qs : List Piece) → Same ps qs → extent_of ps ≡ extent_of qs
same_extent ps qs same = same_by ps qs (extent_of ps) (extent_of qs) same refl refl

-- ---- the law

same_times : (a b : Additions) (start other : Option UtcSecond) (x : Option Extent) → start ≡ other → a.time_channel ≡ b.time_channel → a.version ≡ b.version → times_between a start x ≡ times_between b other x
same_times a b start other x is channel version = rw (is) (by other x)
  where
    by : (s : Option UtcSecond) (y : Option Extent) → times_between a s y ≡ times_between b s y
    by None None = rw (channel, version) refl
    by None (Some e) = rw (channel, version) refl
    by (Some s) None = rw (channel, version) refl
    by (Some s) (Some e) = rw (channel, version) refl

same_append : (ts ps qs : List Piece) → Same ps qs → Same (ts ++ ps) (ts ++ qs)
same_append ts ps qs same channel =
    filter-append _ ts ps ∙ ap (λ (l : List Piece). of_channel channel ts ++ l) (same channel) ∙ sym (filter-append _ ts qs)

same_plans : (setup : Option (List ℕ)) (version : ℕ) (ts ks ls : List Piece) (bytes others : List ℕ) → HaveEqualParts ks ls → IsComplete (plan_of setup version ts ks) bytes → IsComplete (plan_of setup version ts ls) others → bytes ≡ others
same_plans setup version ts ks ls bytes others same c d =
    let rest : Same (ts ++ behind_leading ks) (ts ++ behind_leading ls) =
    same_append ts (behind_leading ks) (behind_leading ls) (λ channel. same_behind channel ks ls same.leading (same.channels channel)) in
    let one : c.merged ≡ d.merged = merge_is_unique (ts ++ behind_leading ks) (ts ++ behind_leading ls) c.merged d.merged rest c.merge d.merge in
    let low : low_of (extent_of (ts ++ ks)) ≡ low_of (extent_of (ts ++ ls)) = ap low_of (same_extent (ts ++ ks) (ts ++ ls) (same_append ts ks ls same.channels)) in
    c.is
    ∙ ap (λ (l : List Piece). bytes_of ((front_of setup version (low_of (extent_of (ts ++ ks))) ++ leading ks) ++ l)) one
    ∙ ap (λ (l : List Piece). bytes_of ((front_of setup version (low_of (extent_of (ts ++ ks))) ++ l) ++ d.merged)) same.leading
    ∙ ap (λ (k : ℕ). bytes_of ((front_of setup version k ++ leading ls) ++ d.merged)) low
    ∙ sym d.is

pub equal_parts : EqualPartsEqualFiles
equal_parts file other bytes others a b ps qs same adds c d =
    let ks : List Piece = kept_packets file ps in
    let ls : List Piece = kept_packets other qs in
    let times : times_in (times_between b b.start (extent_of ls)) ≡ times_in (times_between a a.start (extent_of ks)) =
    ap times_in (sym (same_times a b a.start b.start (extent_of ls) adds.start adds.channel adds.version) ∙ ap (λ (x : Option Extent). times_between a a.start x) (sym (same_extent ks ls same.channels))) in
    same_plans (option_map (λ text. text.now) a.setup) a.version (times_in (times_between a a.start (extent_of ks))) ks ls bytes others same c
    (subst (λ (v : ℕ). IsComplete (plan_of (option_map (λ text. text.now) a.setup) v (times_in (times_between a a.start (extent_of ks))) ls) others) (sym adds.version)
    (subst (λ (t : List Piece). IsComplete (plan_of (option_map (λ text. text.now) a.setup) b.version t ls) others) times
    (subst (λ (s : Option (List ℕ)). IsComplete (plan_of s b.version (times_in (times_between b b.start (extent_of ls))) ls) others) (sym adds.setup) d)))
