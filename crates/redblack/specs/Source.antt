-- The source's rotate_left, rotate_right, balance_insertion and balance_deletion, as they stand in its node.rs, lines 1031 to 1379: both
-- mirrored halves, its names, its order of loads and stores, and its tests for null. Its guard and memory orders are left out.
-- The number behind a line is that of the source's line.
-- `root` is a variable of each routine, handed in and returned: it stands beside the words. What the source must not do, a load or a store
-- behind null, may come to anything here.
use Rattle.std.specs.Prelude.{Bool, true, false, not, ◌&&◌, ◌||◌, List, ℕ, zero, suc, eqb}
use Rattle.slots.specs.Words.{null, pick, cell, write}
use Rattle.slots.specs.Words.{state as redField, parent as parentField, left as left_field, right as rightField}
use Rattle.tree_rules.specs.Source.{is-null}
use Rattle.redblack.specs.Links.{Links, Turn, done, more}

pub record Memory : Type 0 where
  pub cells : List ℕ
  pub root : ℕ

-- The words of our links, without the sizes, which the source does not have.
abbrev pub memory : Links → Memory
memory s = record { cells = s.cells; root = s.root }

abbrev pub set_root : Memory → ℕ → Memory
set_root m r = record { cells = m.cells; root = r }

-- What a turn of a loop comes to: `return`, with the root that is returned, or another turn with x.
pub data Flow : Type 0 where
  returns : Memory → Flow
  again : Memory → ℕ → Flow

-- What a turn of ours is in these words.
abbrev pub flow : Turn → Flow
flow (done s) = returns (memory s)
flow (more s x) = again (memory s) x

-- What a load of a field and a store behind null would come to: anything. The source must not do either.
pub record WildMemory : Type 0 where
  pub loads : ℕ → ℕ
  pub stores : Memory → Memory

module _ (wild : WildMemory) where
  -- p.parent.load, p.left.load, p.right.load, p.red.load: a slot is red where its state is 2.
  abbrev pub load : ℕ → Memory → ℕ → ℕ
  load f m p = pick (is-null p) (wild.loads f) (cell m.cells p f)

  abbrev pub parent_of : Memory → ℕ → ℕ
  parent_of = load parentField

  abbrev pub left_of_lem : Memory → ℕ → ℕ
  left_of_lem = load left_field

  abbrev pub right_of : Memory → ℕ → ℕ
  right_of = load rightField

  abbrev pub red_of : Memory → ℕ → Bool
  red_of m p = eqb (load redField m p) 2

  -- p.parent.store, p.left.store, p.right.store, p.red.store.
  abbrev pub to_field : ℕ → Memory → ℕ → ℕ → Memory
  to_field f m p v = pick (is-null p) (wild.stores m) (record { cells = write m.cells p f v; root = m.root })

  abbrev pub set-parent : Memory → ℕ → ℕ → Memory
  set-parent = to_field parentField

  abbrev pub set-left : Memory → ℕ → ℕ → Memory
  set-left = to_field left_field

  abbrev pub set-right : Memory → ℕ → ℕ → Memory
  set-right = to_field rightField

  abbrev pub set_red : Memory → ℕ → Bool → Memory
  set_red m p b = to_field redField m p (pick b 2 1)

  -- Lines 1031 to 1074.
  unfoldable pub rotate_left : Memory → ℕ → Memory
  rotate_left m p =
      pick (is-null p) m  -- 1036
      (let right = right_of m p in  -- 1045
      pick (is-null right) m  -- 1046
      (let right-left = left_of_lem m right in  -- 1051
      let m = set-right m p right-left in  -- 1052
      let m = pick (not (is-null right-left)) (set-parent m right-left p) m in  -- 1053
      let p_parent = parent_of m p in  -- 1057
      let m = set-parent m right p_parent in  -- 1058
      let m = pick (is-null p_parent)  -- 1059
      (let m = set_root m right in  -- 1060
      set_red m right false)  -- 1061
      (pick (eqb (left_of_lem m p_parent) p)  -- 1064
      (set-left m p_parent right)  -- 1065
      (set-right m p_parent right)) in  -- 1067
      let m = set-left m right p in  -- 1070
      let m = set-parent m p right in  -- 1071
      m))  -- 1073

  -- Lines 1076 to 1119.
  unfoldable pub rotate_right : Memory → ℕ → Memory
  rotate_right m p =
      pick (is-null p) m  -- 1081
      (let left = left_of_lem m p in  -- 1090
      pick (is-null left) m  -- 1091
      (let left-right = right_of m left in  -- 1096
      let m = set-left m p left-right in  -- 1097
      let m = pick (not (is-null left-right)) (set-parent m left-right p) m in  -- 1098
      let p_parent = parent_of m p in  -- 1102
      let m = set-parent m left p_parent in  -- 1103
      let m = pick (is-null p_parent)  -- 1104
      (let m = set_root m left in  -- 1105
      set_red m left false)  -- 1106
      (pick (eqb (right_of m p_parent) p)  -- 1109
      (set-right m p_parent left)  -- 1110
      (set-left m p_parent left)) in  -- 1112
      let m = set-right m left p in  -- 1115
      let m = set-parent m p left in  -- 1116
      m))  -- 1118

  -- Lines 1151 to 1185, the block of `if x_parent == x_parent_parent_left`.
  unfoldable pub insertion_left : Memory → ℕ → ℕ → ℕ → Flow
  insertion_left m x x_parent x_parent-parent =
      let x_parent-parent-right = right_of m x_parent-parent in  -- 1151
      pick (not (is-null x_parent-parent-right) && red_of m x_parent-parent-right)  -- 1154
      (let m = set_red m x_parent-parent-right false in  -- 1157
      let m = set_red m x_parent false in  -- 1160
      let m = set_red m x_parent-parent true in  -- 1161
      let x = x_parent-parent in  -- 1164
      again m x)
      (let (m, x, x_parent, x_parent-parent) : Memory × ℕ × ℕ × ℕ = pick (eqb x (right_of m x_parent))  -- 1166
      (let x = x_parent in  -- 1167
      let m = rotate_left m x in  -- 1168
      let x_parent = parent_of m x in  -- 1169
      let x_parent-parent = pick (is-null x_parent) null (parent_of m x_parent) in  -- 1170
      (m, x, x_parent, x_parent-parent))
      (m, x, x_parent, x_parent-parent) in
      let m = pick (not (is-null x_parent))  -- 1176
      (let m = set_red m x_parent false in  -- 1177
      pick (not (is-null x_parent-parent))  -- 1178
      (let m = set_red m x_parent-parent true in  -- 1179
      rotate_right m x_parent-parent)  -- 1182
      m)
      m in
      again m x)

  -- Lines 1186 to 1217, what follows its `else`.
  unfoldable pub insertion_right : Memory → ℕ → ℕ → ℕ → ℕ → Flow
  insertion_right m x x_parent x_parent-parent x_parent-parent-left =
      pick (not (is-null x_parent-parent-left) && red_of m x_parent-parent-left)  -- 1186
      (let m = set_red m x_parent-parent-left false in  -- 1189
      let m = set_red m x_parent false in  -- 1192
      let m = set_red m x_parent-parent true in  -- 1193
      let x = x_parent-parent in  -- 1196
      again m x)
      (let (m, x, x_parent, x_parent-parent) : Memory × ℕ × ℕ × ℕ = pick (eqb x (left_of_lem m x_parent))  -- 1198
      (let x = x_parent in  -- 1199
      let m = rotate_right m x in  -- 1200
      let x_parent = parent_of m x in  -- 1201
      let x_parent-parent = pick (is-null x_parent) null (parent_of m x_parent) in  -- 1202
      (m, x, x_parent, x_parent-parent))
      (m, x, x_parent, x_parent-parent) in
      let m = pick (not (is-null x_parent))  -- 1208
      (let m = set_red m x_parent false in  -- 1209
      pick (not (is-null x_parent-parent))  -- 1210
      (let m = set_red m x_parent-parent true in  -- 1211
      rotate_left m x_parent-parent)  -- 1214
      m)
      m in
      again m x)

  -- The loop's body, lines 1138 to 1150.
  unfoldable pub insertion_body : Memory → ℕ → Flow
  insertion_body m x =
      let x_parent = parent_of m x in  -- 1138
      pick (is-null x_parent)  -- 1139
      (let m = set_red m x false in  -- 1140
      returns (set_root m x))  -- 1141
      (let x_parent-parent = parent_of m x_parent in  -- 1143
      pick (not (red_of m x_parent) || is-null x_parent-parent) (returns m)  -- 1144
      (let x_parent-parent-left = left_of_lem m x_parent-parent in  -- 1147
      pick (eqb x_parent x_parent-parent-left)  -- 1150
      (insertion_left m x x_parent x_parent-parent)
      (insertion_right m x x_parent x_parent-parent x_parent-parent-left)))

  -- The loop, for at most so many turns.
  unfoldable pub insertion_loop : ℕ → Memory → ℕ → Memory
  insertion_loop zero m x = m
  insertion_loop (suc turns) m x = elim (insertion_body m x) [ returns n ↦ n | again n y ↦ insertion_loop turns n y ]

  -- Lines 1121 to 1219.
  unfoldable pub balance_insertion : ℕ → Memory → ℕ → Memory
  balance_insertion turns m x =
      let m = set_red m x true in  -- 1131
      insertion_loop turns m x  -- 1137

  -- The block of `if x_parent_left == x`, lines 1248 to 1314; behind it and behind `else` stands `x = root`.
  unfoldable pub deletion_left : Memory → ℕ → ℕ → Flow
  deletion_left m x x_parent =
      let x_parent-right = right_of m x_parent in  -- 1248
      let (m, x_parent, x_parent-right) : Memory × ℕ × ℕ = pick (not (is-null x_parent-right) && red_of m x_parent-right)  -- 1249
      (let m = set_red m x_parent-right false in  -- 1252
      let m = set_red m x_parent true in  -- 1255
      let m = rotate_left m x_parent in  -- 1256
      let x_parent = parent_of m x in  -- 1257
      let x_parent-right = pick (is-null x_parent) null (right_of m x_parent) in  -- 1258
      (m, x_parent, x_parent-right))
      (m, x_parent, x_parent-right) in
      pick (is-null x_parent-right) (again m x_parent)  -- 1264
      (let s_left = left_of_lem m x_parent-right in  -- 1268
      let s_right = right_of m x_parent-right in  -- 1271
      pick ((is-null s_right || not (red_of m s_right)) && (is-null s_left || not (red_of m s_left)))  -- 1275
      (let m = set_red m x_parent-right true in  -- 1278
      again m x_parent)  -- 1279
      (let (m, x_parent, x_parent-right) : Memory × ℕ × ℕ = pick (is-null s_right || not (red_of m s_right))  -- 1282
      (let m = pick (not (is-null s_left)) (set_red m s_left false) m in  -- 1283
      let m = set_red m x_parent-right true in  -- 1286
      let m = rotate_right m x_parent-right in  -- 1287
      let x_parent = parent_of m x in  -- 1288
      let x_parent-right = pick (is-null x_parent) null (right_of m x_parent) in  -- 1289
      (m, x_parent, x_parent-right))
      (m, x_parent, x_parent-right) in
      let m = pick (not (is-null x_parent-right))  -- 1295
      (let m = set_red m x_parent-right (pick (is-null x_parent) false (red_of m x_parent)) in  -- 1296
      let s_right = right_of m x_parent-right in  -- 1304
      pick (not (is-null s_right)) (set_red m s_right false) m)  -- 1307
      m in
      let m = pick (not (is-null x_parent))  -- 1311
      (let m = set_red m x_parent false in  -- 1312
      rotate_left m x_parent)  -- 1313
      m in
      let x = m.root in  -- 1377
      again m x))

  -- The block of its `else`, lines 1316 to 1375.
  unfoldable pub deletion_right : Memory → ℕ → ℕ → ℕ → Flow
  deletion_right m x x_parent x_parent-left =
      let (m, x_parent, x_parent-left) : Memory × ℕ × ℕ = pick (not (is-null x_parent-left) && red_of m x_parent-left)  -- 1317
      (let m = set_red m x_parent-left false in  -- 1319
      let m = set_red m x_parent true in  -- 1320
      let m = rotate_right m x_parent in  -- 1321
      let x_parent = parent_of m x in  -- 1322
      let x_parent-left = pick (is-null x_parent) null (left_of_lem m x_parent) in  -- 1323
      (m, x_parent, x_parent-left))
      (m, x_parent, x_parent-left) in
      pick (is-null x_parent-left) (again m x_parent)  -- 1329
      (let s_left = left_of_lem m x_parent-left in  -- 1333
      let s_right = right_of m x_parent-left in  -- 1334
      pick ((is-null s_left || not (red_of m s_left)) && (is-null s_right || not (red_of m s_right)))  -- 1338
      (let m = set_red m x_parent-left true in  -- 1341
      again m x_parent)  -- 1342
      (let (m, x_parent, x_parent-left) : Memory × ℕ × ℕ = pick (is-null s_left || not (red_of m s_left))  -- 1345
      (let m = pick (not (is-null s_right)) (set_red m s_right false) m in  -- 1346
      let m = set_red m x_parent-left true in  -- 1349
      let m = rotate_left m x_parent-left in  -- 1350
      let x_parent = parent_of m x in  -- 1351
      let x_parent-left = pick (is-null x_parent) null (left_of_lem m x_parent) in  -- 1352
      (m, x_parent, x_parent-left))
      (m, x_parent, x_parent-left) in
      let m = pick (not (is-null x_parent-left))  -- 1358
      (let m = set_red m x_parent-left (pick (is-null x_parent) false (red_of m x_parent)) in  -- 1359
      let s_left = left_of_lem m x_parent-left in  -- 1367
      pick (not (is-null s_left)) (set_red m s_left false) m)  -- 1368
      m in
      let m = pick (not (is-null x_parent))  -- 1372
      (let m = set_red m x_parent false in  -- 1373
      rotate_right m x_parent)  -- 1374
      m in
      let x = m.root in  -- 1377
      again m x))

  -- The loop's body, lines 1235 to 1247.
  unfoldable pub deletion_body : Memory → ℕ → Flow
  deletion_body m x =
      pick (is-null x || eqb x m.root) (returns m)  -- 1235
      (let x_parent = parent_of m x in  -- 1238
      pick (is-null x_parent)  -- 1239
      (let m = set_red m x false in  -- 1240
      returns (set_root m x))  -- 1241
      (pick (red_of m x)  -- 1242
      (let m = set_red m x false in  -- 1243
      returns m)  -- 1244
      (let x_parent-left = left_of_lem m x_parent in  -- 1246
      pick (eqb x_parent-left x)  -- 1247
      (deletion_left m x x_parent)
      (deletion_right m x x_parent x_parent-left))))

  -- Lines 1221 to 1379: the loop, for at most so many turns.
  unfoldable pub balance_deletion : ℕ → Memory → ℕ → Memory
  balance_deletion zero m x = m
  balance_deletion (suc turns) m x = elim (deletion_body m x) [ returns n ↦ n | again n y ↦ balance_deletion turns n y ]
