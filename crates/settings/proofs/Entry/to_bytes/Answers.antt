-- `settings::Entry::to_bytes` meets its contract.
use Rattle.std.proofs.Common.{◌≡◌, ℕ, List, ◌∷◌, [], get_or, sym, ap, ◌∙◌, arith}
use Rattle.words.specs.Word.{bytes_of}
use Rattle.settings.specs.Records.{laid, outside}
use Rattle.settings.proofs.RecordLaws.{setting_inside, bytes_listed}
use Rattle.settings.proofs.Entry.to_bytes.Goals as goal
use Rattle.settings.proofs.Entry.to_bytes.Goals.{in-Set, in-GoBack}

pub overflow_cast-setting : goal.overflow_cast-setting
overflow_cast-setting c =
    omega (arith, setting_inside c.requires.0 c.in-Set.setting c.in-Set.value (ap (outside c.requires.0) (sym c.in-Set.is) ∙ c.requires.1))

pub returns : goal.returns
unfolding laid
returns c =
    let b : List ℕ = c.to_le_bytes-v.result in
    let four : List ℕ = get_or b 0 0 ∷ get_or b 1 0 ∷ get_or b 2 0 ∷ get_or b 3 0 ∷ [] in
    let e : four ≡ bytes_of c.match-self.setting.2 = bytes_listed _ b c.to_le_bytes-v.ensures in
    let made = ap (λ (l : List ℕ). c.match-self.setting.0 ∷ c.match-self.setting.1 ∷ 0 ∷ 0 ∷ l) e in
    elim c.match-self.branch [
      | in-Set w ↦ made ∙ ap (λ (t : ℕ × ℕ × ℕ). t.0 ∷ t.1 ∷ 0 ∷ 0 ∷ bytes_of t.2) w.setting-is ∙ ap laid (sym w.in-Set.is)
      | in-GoBack w ↦ made ∙ ap (λ (t : ℕ × ℕ × ℕ). t.0 ∷ t.1 ∷ 0 ∷ 0 ∷ bytes_of t.2) w.setting-is ∙ ap laid (sym w.in-GoBack.is)
    ]
