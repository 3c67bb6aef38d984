-- Which words make which command. Assumes nothing.
use Rattle.std.specs.Prelude.{◌≡◌, ℕ, zero, suc, ◌<◌, Bool, true, false, List, [], Some, None, Ok, Err, codes, Option, Result, MatchResult, ◌≢◌, slice_index}
use Rattle.journal.specs.Decimal.{natural_of, figure_of}
use Rattle.journal.specs.Speech.{said, first_word, after_word}
use Rattle.journal.specs.Spelling.{spelled}
use Rattle.journal.specs.declared.command.Base.{Base}
use Rattle.journal.specs.declared.command.Base.TheVariants.{Today as OfToday, ReserveTodayYesterday}
use Rattle.journal.specs.declared.command.Command.{Command}
use Rattle.journal.specs.declared.command.Command.TheVariants.{BlankDays, Days, Make, Quote, Unquote, Source, Page}
use Rattle.journal.specs.declared.command.Which.{Which}
use Rattle.journal.specs.declared.command.Which.TheVariants.{Today, Yesterday}
use Rattle.journal.specs.declared.complaint.Complaint.{Complaint}
use Rattle.journal.specs.declared.keyword.Keyword.{Keyword}
use Rattle.journal.specs.declared.keyword.Keyword.TheVariants.{Quote as quote_key, Unquote as unquote_key, Today as today_key, Yesterday as yesterday_key, Source as source_key, Page as page_key, Days as days_key}

-- the n-th word of a text, from 0; empty past the last
abbrev pub word : List ℕ → ℕ → List ℕ
word t zero = first_word t
word t (suc n) = word (after_word t) n

-- the text after its first n words
abbrev pub after : List ℕ → ℕ → List ℕ
after t zero = t
after t (suc n) = after (after_word t) n

-- its first n words are these numbers
abbrev pub Numbers : List ℕ → ℕ → List ℕ → Type 0
Numbers t n ds = (i : ℕ) → i < n → natural_of (word t i) ≡ Some (slice_index ds i)

abbrev pub board_key : Which → Keyword
board_key Today = today_key
board_key Yesterday = yesterday_key

abbrev pub ReserveWords : List ℕ → Type 0
ReserveWords t = (word t 0 ≡ codes "today") × (word t 1 ≡ codes "yesterday")

abbrev pub BaseWords : List ℕ → Base → Type 0
BaseWords t OfToday = word t 0 ≡ codes "today"
BaseWords t ReserveTodayYesterday = (word t 0 ≡ codes "reserve") × ReserveWords (after_word t)

-- `gap` stands in front where gaps are filled
abbrev pub PileWords : List ℕ → Bool → Base → Type 0
PileWords t false b = BaseWords t b
PileWords t true b = (word t 0 ≡ codes "gap") × BaseWords (after_word t) b

-- the word that a command begins with
abbrev pub lead : Command → Keyword
lead BlankDays = days_key
lead (Days d) = days_key
lead (Make w v s) = board_key w
lead (Quote w p k x) = quote_key
lead (Unquote w p k) = unquote_key
lead (Source pile) = source_key
lead Page = page_key

-- the words that follow it
abbrev pub Arguments : List ℕ → Command → Type 0
Arguments t BlankDays = word t 0 ≡ codes "blank"
Arguments t (Days d) = Numbers t 29 d
Arguments t (Make w v s) = (natural_of (word t 0) ≡ Some v) × Numbers (after_word t) 8 s
Arguments t (Quote w p k x) = (word t 0 ≡ spelled (board_key w)) × (natural_of (word t 1) ≡ Some p) × (natural_of (word t 2) ≡ Some k) × (figure_of (word t 3) ≡ Some x)
Arguments t (Unquote w p k) = (word t 0 ≡ spelled (board_key w)) × (natural_of (word t 1) ≡ Some p) × (natural_of (word t 2) ≡ Some k)
Arguments t (Source pile) = PileWords t pile.filled pile.base
Arguments t Page = Unit {0}

-- and how many there are
abbrev pub base_count : Base → ℕ
base_count OfToday = 1
base_count ReserveTodayYesterday = 3

abbrev pub pile_count : Bool → Base → ℕ
pile_count false b = base_count b
pile_count true b = suc (base_count b)

abbrev pub count : Command → ℕ
count BlankDays = 1
count (Days d) = 29
count (Make w v s) = 9
count (Quote w p k x) = 4
count (Unquote w p k) = 3
count (Source pile) = pile_count pile.filled pile.base
count Page = 0

-- the text t says the command c, and nothing after it
pub record Says (t : List ℕ) (c : Command) : Type 0 where
  pub first : first_word t ≡ spelled (lead c)
  pub follow : Arguments (after_word t) c
  pub end : word (after_word t) (count c) ≡ []

-- what a line is read as: nothing, the command that it says, or no command at all
abbrev pub Parsed : List ℕ → Result (Option Command) Complaint → Type 0
Parsed line (Ok None) = first_word (said line) ≡ []
Parsed line (Ok (Some c)) = Says (said line) c
Parsed line (Err e) = (first_word (said line) ≢ []) × ((c : Command) → Says (said line) c → ⊥)

-- what the words after a keyword are read as: the command that they make, and what is left; or none that begins so
abbrev pub Taken : Keyword → List ℕ → List ℕ → Result Command Complaint → Type 0
Taken key t u r = MatchResult r (λ c. (lead c ≡ key) × Arguments t c × (u ≡ after t (count c))) (λ _. (c : Command) → lead c ≡ key → Arguments t c → ⊥)

-- the same, the keyword being the one that a word spells
abbrev pub Led : List ℕ → List ℕ → List ℕ → Result Command Complaint → Type 0
Led first t u r = MatchResult r (λ c. (spelled (lead c) ≡ first) × Arguments t c × (u ≡ after t (count c))) (λ _. (c : Command) → spelled (lead c) ≡ first → Arguments t c → ⊥)
