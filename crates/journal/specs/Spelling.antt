-- How keywords are spelled. Assumes nothing.
use Rattle.std.specs.Prelude.{ℕ, List, codes, ◌≢◌}
use Rattle.journal.specs.declared.keyword.Keyword.{Keyword}
use Rattle.journal.specs.declared.keyword.Keyword.TheVariants.{Quote, Unquote, Today, Yesterday, Source, Gap, Reserve, Page, Days, Blank}

abbrev pub spelled : Keyword → List ℕ
spelled Quote = codes "quote"
spelled Unquote = codes "unquote"
spelled Today = codes "today"
spelled Yesterday = codes "yesterday"
spelled Source = codes "source"
spelled Gap = codes "gap"
spelled Reserve = codes "reserve"
spelled Page = codes "page"
spelled Days = codes "days"
spelled Blank = codes "blank"

-- a word that no keyword spells so
abbrev pub Unspelled : List ℕ → Type 0
Unspelled w = (k : Keyword) → spelled k ≢ w
