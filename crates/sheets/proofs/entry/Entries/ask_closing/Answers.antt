use Rattle.std.proofs.Common.{drop, sym, ◌∙◌, rules}
use Rattle.sheets.specs.Asked.{closing}
use Rattle.sheets.proofs.Due.{no_word, refused_at, passed_at, ended, surplus}
use Rattle.sheets.proofs.entry.Entries.ask_closing.Goals as goal

pub returns-in-empty : goal.returns-in-empty
returns-in-empty c = sym (no_word closing c.args.self.now.place c.args.self.now.rest.now (search rules))

pub returns-in-len1-up : goal.returns-in-len1-up
returns-in-len1-up c = sym (refused_at closing c.args.self.now.place c.args.self.now.rest.now _ (search rules) (search rules))

pub returns-in-len1-up-2 : goal.returns-in-len1-up-2
returns-in-len1-up-2 c = sym (refused_at closing c.args.self.now.place c.args.self.now.rest.now _ (search rules) (search rules))

pub returns-in-len1 : goal.returns-in-len1
returns-in-len1 c =
    let s = c.args.self.now in
    sym (passed_at closing s.place s.rest.now (search rules) (search rules) ∙ ended _ (drop 1 s.rest.now) (search rules))

pub returns-in-len2-up : goal.returns-in-len2-up
returns-in-len2-up c =
    let s = c.args.self.now in
    sym (passed_at closing s.place s.rest.now (search rules) (search rules) ∙ surplus _ (drop 1 s.rest.now) (search rules))
