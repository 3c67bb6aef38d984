use Rattle.std.proofs.Common.{◌≡◌, ℕ, length, get_or, replicate, None, rules}
use Rattle.days.proofs.Made.{made as each_made}
use Rattle.boards.specs.declared.provider.Provider.{Provider}
use Rattle.boards.proofs.Fresh.{made}
use Rattle.boards.proofs.quoting.silent.Goals as goal

pub returns : goal.returns
returns c =
    let s = c.args.shares in
    let eight : length s ≡ 8 = search rules in
    let ps = c.from_fn.result in
    let i = c.from_fn.ensures.items in
    let each = each_made _ _ (λ (k : ℕ) (p : Provider). (p.share ≡ get_or s k 0) × (p.quotes ≡ replicate 29 None)) (λ k y q t. search rules) in
    made (replicate 29 None) 8 s ps eight i.long (λ k d h. each ps d 8 i k h)
