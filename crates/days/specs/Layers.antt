-- The layers that can refuse a call, by name, and how a refusal is printed. Assumes nothing.
use Rattle.std.specs.Prelude.{ℕ, List, ◌++◌, codes}
use Rattle.std.specs.Fmt.{decimal}
use Rattle.days.specs.declared.refusal.Layer.{Layer}
use Rattle.days.specs.declared.refusal.Layer.TheVariants.{Sheet, Source, Curve, Contract, Book}
use Rattle.days.specs.declared.refusal.Refusal.{Refusal}

abbrev pub name_of : Layer → List ℕ
name_of Sheet = codes "sheet"
name_of Source = codes "source"
name_of Curve = codes "curve"
name_of Contract = codes "contract"
name_of Book = codes "book"

-- number, layer and place
abbrev pub text_of : Refusal → List ℕ
text_of r = decimal r.number ++ (codes " " ++ (name_of r.layer ++ (codes " " ++ decimal r.place)))
