-- The rows of a new list have their places and their contents.
use Rattle.std.proofs.Common.{inl, ℕ, ◌+◌, List, [], ◌∷◌, map, Contains, sym, ap, subst}
use Rattle.std.specs.List.{AllByRecursion}
use Rattle.table_history.proofs.RowListLemmas.{Contains-head, Contains-tail}
use Rattle.iceberg_manifest.specs.ListWriting.{HasContent, HavePlaces}
use Rattle.iceberg_version.specs.Manifests.{AreListed, LiveManifest, NextManifest, new, stays}

pub listed_places : (front : List ℕ) (version place number : ℕ) (ms : List NextManifest) (ts : List (List ℕ)) (ls : List LiveManifest) → AreListed front version place number ms ts ls → HavePlaces place (map (λ l. l.info) ls)
listed_places front version place number [] [] [] are = tt
listed_places front version place number [] [] (l ∷ ls) are = absurd are
listed_places front version place number [] (t ∷ ts) ls are = absurd are
listed_places front version place number (stays m ∷ ms) ts [] are = absurd are
listed_places front version place number (stays m ∷ ms) ts (l ∷ ls) are = (ap (λ (x : LiveManifest). x.info.place) are.0, listed_places front version (place + 1) number ms ts ls are.1)
listed_places front version place number (new es rows ∷ ms) [] ls are = absurd are
listed_places front version place number (new es rows ∷ ms) (t ∷ ts) [] are = absurd are
listed_places front version place number (new es rows ∷ ms) (t ∷ ts) (l ∷ ls) are = (ap (λ i. i.place) are.1.2, listed_places front version (place + 1) (number + 1) ms ts ls are.2)

pub listed_contents : (front : List ℕ) (version place number : ℕ) (ms : List NextManifest) (ts : List (List ℕ)) (ls : List LiveManifest) → ((m : LiveManifest) → Contains ms (stays m) → HasContent m.info) → AreListed front version place number ms ts ls → AllByRecursion HasContent (map (λ l. l.info) ls)
listed_contents front version place number [] [] [] old are = tt
listed_contents front version place number [] [] (l ∷ ls) old are = absurd are
listed_contents front version place number [] (t ∷ ts) ls old are = absurd are
listed_contents front version place number (stays m ∷ ms) ts [] old are = absurd are
listed_contents front version place number (stays m ∷ ms) ts (l ∷ ls) old are = (
  subst (λ (x : LiveManifest). HasContent x.info) (sym are.0) (old m (Contains-head (stays m) ms)),
  listed_contents front version (place + 1) number ms ts ls (λ n there. old n (Contains-tail (stays m) ms (stays n) there)) are.1,
)
listed_contents front version place number (new es rows ∷ ms) [] ls old are = absurd are
listed_contents front version place number (new es rows ∷ ms) (t ∷ ts) [] old are = absurd are
listed_contents front version place number (new es rows ∷ ms) (t ∷ ts) (l ∷ ls) old are = (
  inl (ap (λ i. i.content) are.1.2),
  listed_contents front version (place + 1) (number + 1) ms ts ls (λ n there. old n (Contains-tail (new es rows) ms (stays n) there)) are.2,
)
