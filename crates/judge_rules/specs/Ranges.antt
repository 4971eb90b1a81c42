-- The ranges of the numbers of a rule (own choice).
use Rattle.std.specs.Prelude.{ℕ, ◌≤◌, ◌^◌, length, Option, None, Some, IfSome, ⊤}
use Rattle.std.specs.Coded.{×_prop, Unit-prop, le_prop}
use Rattle.mil_mode.specs.Codes.{last_code}
use Rattle.mil_word.specs.Fields.{highest_address, highest_subaddress, most_words}
use Rattle.judge_rules.specs.declared.rules.Bounds.{Bounds}
use Rattle.judge_rules.specs.declared.rules.Check.{Check}
use Rattle.judge_rules.specs.declared.rules.Check.TheVariants.{Sound, Failed, Clean, Status, Data, Response, Period}
use Rattle.judge_rules.specs.declared.rules.Check.TheVariants.{Count, CountOf, DataWord, DataStep, Whole}
use Rattle.judge_rules.specs.declared.rules.Span.{Span}
use Rattle.judge_rules.specs.declared.rules.WordRange.{WordRange}
use Rattle.judge_rules.specs.declared.rules.Selector.{Selector}
use Rattle.judge_rules.specs.declared.rules.Selector.TheVariants.{Any, Receive, Transmit, Between, Mode, ReceiveAll}
use Rattle.judge_rules.specs.declared.rules.Selector.TheVariants.{BetweenAll, ModeAll}

-- a number from low to high
abbrev pub IsFrom : ℕ → ℕ → ℕ → Type 0
IsFrom low high n = (low ≤ n) × (n ≤ high)

-- such a number, or each of them
abbrev pub IsChoice : ℕ → ℕ → Option ℕ → Type 0
IsChoice low high choice = IfSome choice (IsFrom low high)

-- the address of a terminal, a subaddress that is none of mode commands, and a mode code (4.3.3.5.1)
abbrev pub IsAddress : Option ℕ → Type 0
IsAddress address = IsChoice 0 highest_address address

abbrev pub IsSubaddress : Option ℕ → Type 0
IsSubaddress subaddress = IsChoice 1 highest_subaddress subaddress

abbrev pub IsCode : Option ℕ → Type 0
IsCode code = IsChoice 0 last_code code

abbrev pub IsSelector : Selector → Type 0
IsSelector Any = ⊤
IsSelector (Receive address subaddress) = IsAddress address × IsSubaddress subaddress
IsSelector (Transmit address subaddress) = IsAddress address × IsSubaddress subaddress
IsSelector (Between from from_subaddress to to_subaddress) =
    (IsAddress from × IsSubaddress from_subaddress) × (IsAddress to × IsSubaddress to_subaddress)
IsSelector (Mode address code) = IsAddress address × IsCode code
IsSelector (ReceiveAll subaddress) = IsSubaddress subaddress
IsSelector (BetweenAll from from_subaddress to_subaddress) =
    (IsAddress from × IsSubaddress from_subaddress) × IsSubaddress to_subaddress
IsSelector (ModeAll code) = IsCode code

-- the last time that is named
abbrev pub last_tick : ℕ
last_tick = 2 ^ 47

-- a first time is not behind a last one, where there are both
abbrev pub AreOrdered : Option ℕ → Option ℕ → Type 0
AreOrdered (Some first) (Some last) = first ≤ last
AreOrdered (Some first) None = ⊤
AreOrdered None last = ⊤

abbrev pub IsSpan : Span → Type 0
IsSpan span = (IsChoice 0 last_tick span.from × IsChoice 0 last_tick span.to) × AreOrdered span.from span.to

-- the least number is at most the greatest, and this at most so much
abbrev pub AreBounds : ℕ → Bounds → Type 0
AreBounds most bounds = (bounds.low ≤ bounds.high) × (bounds.high ≤ most)

-- one of at most 32 data words, the least value at most the greatest
abbrev pub IsWordRange : WordRange → Type 0
IsWordRange range = IsFrom 1 most_words range.place × (range.low ≤ range.high)

-- a message has at most 32 data words; gaps are told up to 255 ticks; other numbers have seven digits
abbrev pub IsCheck : Check → Type 0
IsCheck Sound = ⊤
IsCheck Failed = ⊤
IsCheck Clean = ⊤
IsCheck (Status datum) = ⊤
IsCheck (Data found) = length found.items ≤ most_words
IsCheck (Response bounds) = AreBounds 255 bounds
IsCheck (Period bounds) = AreBounds 9999999 bounds
IsCheck (Count bounds) = AreBounds 9999999 bounds
IsCheck (CountOf bounds kind) = AreBounds 9999999 bounds
IsCheck (DataWord range) = IsWordRange range
IsCheck (DataStep range) = IsWordRange range
IsCheck Whole = ⊤

-- the numbers of a rule: its channel, and those of its times, its selector and its check
abbrev pub AreInRange : Option ℕ → Span → Selector → Check → Type 0
AreInRange channel span selector check =
    (IsChoice 1 65535 channel × IsSpan span) × (IsSelector selector × IsCheck check)

-- ---- each of these has one proof at most

IsChoice-prop : (low high : ℕ) (choice : Option ℕ) → IsProp (IsChoice low high choice)
IsChoice-prop low high None = Unit-prop
IsChoice-prop low high (Some n) = ×_prop le_prop le_prop

IsEnd-prop : (address subaddress : Option ℕ) → IsProp (IsAddress address × IsSubaddress subaddress)
IsEnd-prop address subaddress =
    ×_prop (IsChoice-prop 0 highest_address address) (IsChoice-prop 1 highest_subaddress subaddress)

IsSelector-prop : (selector : Selector) → IsProp (IsSelector selector)
IsSelector-prop Any = Unit-prop
IsSelector-prop (Receive address subaddress) = IsEnd-prop address subaddress
IsSelector-prop (Transmit address subaddress) = IsEnd-prop address subaddress
IsSelector-prop (Between from from_subaddress to to_subaddress) =
    ×_prop (IsEnd-prop from from_subaddress) (IsEnd-prop to to_subaddress)
IsSelector-prop (Mode address code) =
    ×_prop (IsChoice-prop 0 highest_address address) (IsChoice-prop 0 last_code code)
IsSelector-prop (ReceiveAll subaddress) = IsChoice-prop 1 highest_subaddress subaddress
IsSelector-prop (BetweenAll from from_subaddress to_subaddress) =
    ×_prop (IsEnd-prop from from_subaddress) (IsChoice-prop 1 highest_subaddress to_subaddress)
IsSelector-prop (ModeAll code) = IsChoice-prop 0 last_code code

AreOrdered-prop : (first last : Option ℕ) → IsProp (AreOrdered first last)
AreOrdered-prop (Some first) (Some last) = le_prop
AreOrdered-prop (Some first) None = Unit-prop
AreOrdered-prop None last = Unit-prop

IsSpan-prop : (span : Span) → IsProp (IsSpan span)
IsSpan-prop span =
    ×_prop (×_prop (IsChoice-prop 0 last_tick span.from) (IsChoice-prop 0 last_tick span.to))
    (AreOrdered-prop span.from span.to)

IsWordRange-prop : (range : WordRange) → IsProp (IsWordRange range)
IsWordRange-prop range = ×_prop (×_prop le_prop le_prop) le_prop

IsCheck-prop : (check : Check) → IsProp (IsCheck check)
IsCheck-prop Sound = Unit-prop
IsCheck-prop Failed = Unit-prop
IsCheck-prop Clean = Unit-prop
IsCheck-prop (Status datum) = Unit-prop
IsCheck-prop (Data found) = le_prop
IsCheck-prop (Response bounds) = ×_prop le_prop le_prop
IsCheck-prop (Period bounds) = ×_prop le_prop le_prop
IsCheck-prop (Count bounds) = ×_prop le_prop le_prop
IsCheck-prop (CountOf bounds kind) = ×_prop le_prop le_prop
IsCheck-prop (DataWord range) = IsWordRange-prop range
IsCheck-prop (DataStep range) = IsWordRange-prop range
IsCheck-prop Whole = Unit-prop

pub AreInRange-prop : (channel : Option ℕ) (span : Span) (selector : Selector) (check : Check)
    → IsProp (AreInRange channel span selector check)
AreInRange-prop channel span selector check =
    ×_prop (×_prop (IsChoice-prop 1 65535 channel) (IsSpan-prop span))
    (×_prop (IsSelector-prop selector) (IsCheck-prop check))
