-- Every claim of the crate holds: the laws of the other files, put together.
use Rattle.std.proofs.Common.{◌≡◌, ℕ, ◌+◌, ◌*◌, ◌^◌, ◌≤◌, List, length, get_or, ap, ◌∙◌, le_trans, arith, pow_mono, ne_eqb}
use Rattle.slots.specs.Words.{null, name_of, hash_part, key_part}
use Rattle.slots.specs.Answers.{some}
use Rattle.tree_rules.specs.Find.{slots_of, found}
use Rattle.tree_rules.specs.Claims.{Finds, Rules, Chains, Claims, Shallow, Weighs}
use Rattle.tree_rules.specs.Claims.{FindsAsSource, ChecksAsSource}
use Rattle.tree_rules.specs.Source.{Wild}
use Rattle.tree_rules.proofs.Source.{body_is, search_is, answer_is}
use Rattle.tree_rules.specs.Tree.{Tree, slots, Rooted, Coloured, Level, height}
use Rattle.tree_rules.proofs.Height.{not_deep, looks_most}
use Rattle.tree_rules.proofs.Found.{lost_nine, nine_lost, only_nine, here_given, given_here, missed_nothing, nothing_missed}
use Rattle.tree_rules.proofs.Deciding.{look_claims}
use Rattle.tree_rules.proofs.Looks.{tree_looks}
use Rattle.tree_rules.proofs.Checking.{test_claims, check_claims}
use Rattle.tree_rules.proofs.Reaching.{reached-rooted, rooted-reached, rooted_unique, rooted_most}
use Rattle.tree_rules.proofs.Chaining.{chained_chain, chain_chained, chain_once, chain_unique}
use Rattle.tree_rules.proofs.Rising.{rises_rising}
use Rattle.tree_rules.proofs.Colouring.{coloured-coloured}
use Rattle.tree_rules.proofs.Levelling.{level-level}
use Rattle.tree_rules.specs.Ranks.{kth_from, rank_from}
use Rattle.tree_rules.specs.Sizes.{SizedBy}
use Rattle.tree_rules.proofs.Weighing.{Each, sized_each, sized_parts, all_sized_lem}
use Rattle.tree_rules.proofs.Positions.{kth_slot, rank_of_lem}
use Rattle.tree_rules.proofs.Sizing.{tree_size_lem, obeyed_spent, obeyed-unsized}

search_claims : (names cells : List ℕ) (root hash key : ℕ) → Finds names cells root hash key
search_claims names cells root hash key =
    record {
      nine = (nine_lost names cells root hash key, lost_nine names cells root hash key);
      only_nine = only_nine names cells root hash key;
      at = λ slot. (given_here names cells root hash key, here_given names cells root hash key);
      none = (nothing_missed names cells root hash key, missed_nothing names cells root hash key);
      looks = tree_looks names cells hash key root;
    }

rule_claims : (names cells : List ℕ) (few : slots_of names ≤ null) (ends : length cells ≤ 7 * null) (root : ℕ)
    → Rules names cells few ends root
rule_claims names cells few ends root =
    record {
      spent = λ v rest. obeyed_spent names cells few ends root v rest;
      reaches = reached-rooted (slots_of names) cells few root;
      reached_all = rooted-reached (slots_of names) cells few root;
      one_tree = rooted_unique (slots_of names) cells few root;
      four = λ h. rises_rising names cells few root h;
      five = λ h. coloured-coloured (slots_of names) cells few ends root h;
      six = λ h. level-level (slots_of names) cells few root h;
    }

chain_claims : (n : ℕ) (cells : List ℕ) (few : n ≤ null) (first : ℕ) → Chains n cells few first
chain_claims n cells few first =
    record {
      walk = chained_chain n cells few first;
      walked = chain_chained n cells few first;
      once = λ h. chain_once n cells few first h;
      one_chain = chain_unique n cells few;
    }

-- No find is deep: it looks at no more slots than the longest way down meets, and that is not many.
pub found_most : (names cells : List ℕ) (root hash key : ℕ) {t : Tree} → Rooted (slots_of names) cells root t
    → length (found names cells root hash key).looks ≤ height t
unfolding found
found_most names cells root hash key h = rw h.from (looks_most (slots_of names) names cells hash key (slots_of names) h.hangs)

-- So 2 to the looks is at most the square of one more than the slots.
pub looks_squared : (names cells : List ℕ) (root hash key : ℕ) {t : Tree} → Rooted (slots_of names) cells root t → Coloured t → Level t
    → 2 ^ length (found names cells root hash key).looks ≤ (length (slots t) + 1) * (length (slots t) + 1)
looks_squared names cells root hash key {t} r c l = le_trans (pow_mono (found_most names cells root hash key r)) (not_deep t c l)

shallow_claims : (names cells : List ℕ) (root hash key : ℕ) (t : Tree) → Shallow names cells root hash key t
shallow_claims names cells root hash key t = record { height_most = not_deep t; looks_most = found_most names cells root hash key }

weigh_claims : (names cells sizes : List ℕ) (few : slots_of names ≤ null) (ends : length cells ≤ 7 * null)
    (long : length sizes ≡ slots_of names) (root : ℕ)
    → Weighs names cells sizes few ends long root
weigh_claims names cells sizes few ends long root =
    record {
      eight = λ h. all_sized_lem (slots_of names) cells sizes few long root h;
      parts = sized_parts sizes;
      size = tree_size_lem names cells sizes few ends long root;
      kth = λ {t} h z k l.
          ap (λ (i : ℕ). kth_from (slots_of names) cells sizes i k) h.from
          ∙ kth_slot cells sizes small (slots_of names) k h.hangs (slot_sizes h z) (rooted_most (slots_of names) cells few root h) l;
      rank = λ {t} h z up k l. (let x = get_or (slots t) k null in
          ap (λ (i : ℕ). rank_from (slots_of names) names cells sizes i (name_of names x hash_part) (name_of names x key_part) 0) h.from
          ∙ rank_of_lem names cells sizes small (slots_of names) k 0 few h.hangs (slot_sizes h z) up
          (rooted_most (slots_of names) cells few root h) l
          (omega (arith, rooted_most (slots_of names) cells few root h)) ∙ ap some (omega arith));
    }
  where
    small : length sizes ≤ null
    small = omega (arith, long, few)

    slot_sizes : {t : Tree} → Rooted (slots_of names) cells root t → SizedBy sizes t → Each sizes t
    slot_sizes {t} h z = sized_each t h.once ((sized_parts sizes t).0 z).0

-- The source's text.
find_source_claims : (w : Wild) (names cells : List ℕ) (root hash key : ℕ) → FindsAsSource w names cells root hash key
unfolding found
find_source_claims w names cells root hash key =
    record {
      turn = λ p d. body_is w names cells p hash key (ne_eqb p null d);
      whole = search_is w names cells (slots_of names) root hash key;
    }

check_source_claims : (w : Wild) (names cells : List ℕ) (root : ℕ) → ChecksAsSource w names cells root
check_source_claims w names cells root =
    record { passing = λ d. (answer_is w names cells root d).passing; failing = λ d. (answer_is w names cells root d).failing }

pub claims : Claims
claims =
    record {
      looks = look_claims;
      finds = search_claims;
      finds_as_source = find_source_claims;
      tests = test_claims;
      checks = check_claims;
      checks_as_source = check_source_claims;
      rules = rule_claims;
      chains = chain_claims;
      shallow = shallow_claims;
      weighs = weigh_claims;
      unsized = obeyed-unsized;
    }
