-- A conjunction of the tests in the order of the definition, and one in the order in which they are made, hold together.
use Rattle.std.proofs.Common.{◌≡◌, Bool, true, false, refl, sym}
use Rattle.std.specs.Prelude.{◌&&◌}

both_ways : (s t : Bool) → (s ≡ true → t ≡ true) → (t ≡ true → s ≡ true) → s ≡ t
both_ways true t f g = sym (f refl)
both_ways false true f g = g refl
both_ways false false f g = refl

forth : (c s oE e oN n1 n2 nd oF f1 f2 oA a1 ad at oT t1 oL l1 oM m1 oK k1 oQ qd q1 q2 oS s1 oD d1 oU u1 oI i1 oR r1 rd cl : Bool) → ((c && (s && (((oE && e) && ((oN && (n1 && n2)) && (nd && (oF && (f1 && f2))))) && (((oA && (a1 && (ad && at))) && ((oT && t1) && ((oL && l1) && ((oM && m1) && (oK && k1))))) && (((oQ && (qd && (q1 && q2))) && ((oS && s1) && ((oD && d1) && (oU && u1)))) && ((oI && i1) && (oR && (r1 && rd)))))))) && cl) ≡ true → (c && ((oE && (oN && (oF && (oA && (oT && (oL && (oM && (oK && (oQ && (oS && (oD && (oU && (oI && oR))))))))))))) && (((e && (n1 && (n2 && (f1 && f2)))) && ((a1 && (at && (t1 && (l1 && (m1 && k1))))) && ((q1 && (q2 && (s1 && (d1 && u1)))) && (s && (i1 && r1))))) && ((nd && (ad && (qd && rd))) && cl)))) ≡ true
forth false s oE e oN n1 n2 nd oF f1 f2 oA a1 ad at oT t1 oL l1 oM m1 oK k1 oQ qd q1 q2 oS s1 oD d1 oU u1 oI i1 oR r1 rd cl all = cc
forth true false oE e oN n1 n2 nd oF f1 f2 oA a1 ad at oT t1 oL l1 oM m1 oK k1 oQ qd q1 q2 oS s1 oD d1 oU u1 oI i1 oR r1 rd cl all = cc
forth true true false e oN n1 n2 nd oF f1 f2 oA a1 ad at oT t1 oL l1 oM m1 oK k1 oQ qd q1 q2 oS s1 oD d1 oU u1 oI i1 oR r1 rd cl all = cc
forth true true true false oN n1 n2 nd oF f1 f2 oA a1 ad at oT t1 oL l1 oM m1 oK k1 oQ qd q1 q2 oS s1 oD d1 oU u1 oI i1 oR r1 rd cl all = cc
forth true true true true false n1 n2 nd oF f1 f2 oA a1 ad at oT t1 oL l1 oM m1 oK k1 oQ qd q1 q2 oS s1 oD d1 oU u1 oI i1 oR r1 rd cl all = cc
forth true true true true true false n2 nd oF f1 f2 oA a1 ad at oT t1 oL l1 oM m1 oK k1 oQ qd q1 q2 oS s1 oD d1 oU u1 oI i1 oR r1 rd cl all = cc
forth true true true true true true false nd oF f1 f2 oA a1 ad at oT t1 oL l1 oM m1 oK k1 oQ qd q1 q2 oS s1 oD d1 oU u1 oI i1 oR r1 rd cl all = cc
forth true true true true true true true false oF f1 f2 oA a1 ad at oT t1 oL l1 oM m1 oK k1 oQ qd q1 q2 oS s1 oD d1 oU u1 oI i1 oR r1 rd cl all = cc
forth true true true true true true true true false f1 f2 oA a1 ad at oT t1 oL l1 oM m1 oK k1 oQ qd q1 q2 oS s1 oD d1 oU u1 oI i1 oR r1 rd cl all = cc
forth true true true true true true true true true false f2 oA a1 ad at oT t1 oL l1 oM m1 oK k1 oQ qd q1 q2 oS s1 oD d1 oU u1 oI i1 oR r1 rd cl all = cc
forth true true true true true true true true true true false oA a1 ad at oT t1 oL l1 oM m1 oK k1 oQ qd q1 q2 oS s1 oD d1 oU u1 oI i1 oR r1 rd cl all = cc
forth true true true true true true true true true true true false a1 ad at oT t1 oL l1 oM m1 oK k1 oQ qd q1 q2 oS s1 oD d1 oU u1 oI i1 oR r1 rd cl all = cc
forth true true true true true true true true true true true true false ad at oT t1 oL l1 oM m1 oK k1 oQ qd q1 q2 oS s1 oD d1 oU u1 oI i1 oR r1 rd cl all = cc
forth true true true true true true true true true true true true true false at oT t1 oL l1 oM m1 oK k1 oQ qd q1 q2 oS s1 oD d1 oU u1 oI i1 oR r1 rd cl all = cc
forth true true true true true true true true true true true true true true false oT t1 oL l1 oM m1 oK k1 oQ qd q1 q2 oS s1 oD d1 oU u1 oI i1 oR r1 rd cl all = cc
forth true true true true true true true true true true true true true true true false t1 oL l1 oM m1 oK k1 oQ qd q1 q2 oS s1 oD d1 oU u1 oI i1 oR r1 rd cl all = cc
forth true true true true true true true true true true true true true true true true false oL l1 oM m1 oK k1 oQ qd q1 q2 oS s1 oD d1 oU u1 oI i1 oR r1 rd cl all = cc
forth true true true true true true true true true true true true true true true true true false l1 oM m1 oK k1 oQ qd q1 q2 oS s1 oD d1 oU u1 oI i1 oR r1 rd cl all = cc
forth true true true true true true true true true true true true true true true true true true false oM m1 oK k1 oQ qd q1 q2 oS s1 oD d1 oU u1 oI i1 oR r1 rd cl all = cc
forth true true true true true true true true true true true true true true true true true true true false m1 oK k1 oQ qd q1 q2 oS s1 oD d1 oU u1 oI i1 oR r1 rd cl all = cc
forth true true true true true true true true true true true true true true true true true true true true false oK k1 oQ qd q1 q2 oS s1 oD d1 oU u1 oI i1 oR r1 rd cl all = cc
forth true true true true true true true true true true true true true true true true true true true true true false k1 oQ qd q1 q2 oS s1 oD d1 oU u1 oI i1 oR r1 rd cl all = cc
forth true true true true true true true true true true true true true true true true true true true true true true false oQ qd q1 q2 oS s1 oD d1 oU u1 oI i1 oR r1 rd cl all = cc
forth true true true true true true true true true true true true true true true true true true true true true true true false qd q1 q2 oS s1 oD d1 oU u1 oI i1 oR r1 rd cl all = cc
forth true true true true true true true true true true true true true true true true true true true true true true true true false q1 q2 oS s1 oD d1 oU u1 oI i1 oR r1 rd cl all = cc
forth true true true true true true true true true true true true true true true true true true true true true true true true true false q2 oS s1 oD d1 oU u1 oI i1 oR r1 rd cl all = cc
forth true true true true true true true true true true true true true true true true true true true true true true true true true true false oS s1 oD d1 oU u1 oI i1 oR r1 rd cl all = cc
forth true true true true true true true true true true true true true true true true true true true true true true true true true true true false s1 oD d1 oU u1 oI i1 oR r1 rd cl all = cc
forth true true true true true true true true true true true true true true true true true true true true true true true true true true true true false oD d1 oU u1 oI i1 oR r1 rd cl all = cc
forth true true true true true true true true true true true true true true true true true true true true true true true true true true true true true false d1 oU u1 oI i1 oR r1 rd cl all = cc
forth true true true true true true true true true true true true true true true true true true true true true true true true true true true true true true false oU u1 oI i1 oR r1 rd cl all = cc
forth true true true true true true true true true true true true true true true true true true true true true true true true true true true true true true true false u1 oI i1 oR r1 rd cl all = cc
forth true true true true true true true true true true true true true true true true true true true true true true true true true true true true true true true true false oI i1 oR r1 rd cl all = cc
forth true true true true true true true true true true true true true true true true true true true true true true true true true true true true true true true true true false i1 oR r1 rd cl all = cc
forth true true true true true true true true true true true true true true true true true true true true true true true true true true true true true true true true true true false oR r1 rd cl all = cc
forth true true true true true true true true true true true true true true true true true true true true true true true true true true true true true true true true true true true false r1 rd cl all = cc
forth true true true true true true true true true true true true true true true true true true true true true true true true true true true true true true true true true true true true false rd cl all = cc
forth true true true true true true true true true true true true true true true true true true true true true true true true true true true true true true true true true true true true true false cl all = cc
forth true true true true true true true true true true true true true true true true true true true true true true true true true true true true true true true true true true true true true true false all = cc
forth true true true true true true true true true true true true true true true true true true true true true true true true true true true true true true true true true true true true true true true all = refl

back : (c oE oN oF oA oT oL oM oK oQ oS oD oU oI oR e n1 n2 f1 f2 a1 at t1 l1 m1 k1 q1 q2 s1 d1 u1 s i1 r1 nd ad qd rd cl : Bool) → (c && ((oE && (oN && (oF && (oA && (oT && (oL && (oM && (oK && (oQ && (oS && (oD && (oU && (oI && oR))))))))))))) && (((e && (n1 && (n2 && (f1 && f2)))) && ((a1 && (at && (t1 && (l1 && (m1 && k1))))) && ((q1 && (q2 && (s1 && (d1 && u1)))) && (s && (i1 && r1))))) && ((nd && (ad && (qd && rd))) && cl)))) ≡ true → ((c && (s && (((oE && e) && ((oN && (n1 && n2)) && (nd && (oF && (f1 && f2))))) && (((oA && (a1 && (ad && at))) && ((oT && t1) && ((oL && l1) && ((oM && m1) && (oK && k1))))) && (((oQ && (qd && (q1 && q2))) && ((oS && s1) && ((oD && d1) && (oU && u1)))) && ((oI && i1) && (oR && (r1 && rd)))))))) && cl) ≡ true
back false oE oN oF oA oT oL oM oK oQ oS oD oU oI oR e n1 n2 f1 f2 a1 at t1 l1 m1 k1 q1 q2 s1 d1 u1 s i1 r1 nd ad qd rd cl all = cc
back true false oN oF oA oT oL oM oK oQ oS oD oU oI oR e n1 n2 f1 f2 a1 at t1 l1 m1 k1 q1 q2 s1 d1 u1 s i1 r1 nd ad qd rd cl all = cc
back true true false oF oA oT oL oM oK oQ oS oD oU oI oR e n1 n2 f1 f2 a1 at t1 l1 m1 k1 q1 q2 s1 d1 u1 s i1 r1 nd ad qd rd cl all = cc
back true true true false oA oT oL oM oK oQ oS oD oU oI oR e n1 n2 f1 f2 a1 at t1 l1 m1 k1 q1 q2 s1 d1 u1 s i1 r1 nd ad qd rd cl all = cc
back true true true true false oT oL oM oK oQ oS oD oU oI oR e n1 n2 f1 f2 a1 at t1 l1 m1 k1 q1 q2 s1 d1 u1 s i1 r1 nd ad qd rd cl all = cc
back true true true true true false oL oM oK oQ oS oD oU oI oR e n1 n2 f1 f2 a1 at t1 l1 m1 k1 q1 q2 s1 d1 u1 s i1 r1 nd ad qd rd cl all = cc
back true true true true true true false oM oK oQ oS oD oU oI oR e n1 n2 f1 f2 a1 at t1 l1 m1 k1 q1 q2 s1 d1 u1 s i1 r1 nd ad qd rd cl all = cc
back true true true true true true true false oK oQ oS oD oU oI oR e n1 n2 f1 f2 a1 at t1 l1 m1 k1 q1 q2 s1 d1 u1 s i1 r1 nd ad qd rd cl all = cc
back true true true true true true true true false oQ oS oD oU oI oR e n1 n2 f1 f2 a1 at t1 l1 m1 k1 q1 q2 s1 d1 u1 s i1 r1 nd ad qd rd cl all = cc
back true true true true true true true true true false oS oD oU oI oR e n1 n2 f1 f2 a1 at t1 l1 m1 k1 q1 q2 s1 d1 u1 s i1 r1 nd ad qd rd cl all = cc
back true true true true true true true true true true false oD oU oI oR e n1 n2 f1 f2 a1 at t1 l1 m1 k1 q1 q2 s1 d1 u1 s i1 r1 nd ad qd rd cl all = cc
back true true true true true true true true true true true false oU oI oR e n1 n2 f1 f2 a1 at t1 l1 m1 k1 q1 q2 s1 d1 u1 s i1 r1 nd ad qd rd cl all = cc
back true true true true true true true true true true true true false oI oR e n1 n2 f1 f2 a1 at t1 l1 m1 k1 q1 q2 s1 d1 u1 s i1 r1 nd ad qd rd cl all = cc
back true true true true true true true true true true true true true false oR e n1 n2 f1 f2 a1 at t1 l1 m1 k1 q1 q2 s1 d1 u1 s i1 r1 nd ad qd rd cl all = cc
back true true true true true true true true true true true true true true false e n1 n2 f1 f2 a1 at t1 l1 m1 k1 q1 q2 s1 d1 u1 s i1 r1 nd ad qd rd cl all = cc
back true true true true true true true true true true true true true true true false n1 n2 f1 f2 a1 at t1 l1 m1 k1 q1 q2 s1 d1 u1 s i1 r1 nd ad qd rd cl all = cc
back true true true true true true true true true true true true true true true true false n2 f1 f2 a1 at t1 l1 m1 k1 q1 q2 s1 d1 u1 s i1 r1 nd ad qd rd cl all = cc
back true true true true true true true true true true true true true true true true true false f1 f2 a1 at t1 l1 m1 k1 q1 q2 s1 d1 u1 s i1 r1 nd ad qd rd cl all = cc
back true true true true true true true true true true true true true true true true true true false f2 a1 at t1 l1 m1 k1 q1 q2 s1 d1 u1 s i1 r1 nd ad qd rd cl all = cc
back true true true true true true true true true true true true true true true true true true true false a1 at t1 l1 m1 k1 q1 q2 s1 d1 u1 s i1 r1 nd ad qd rd cl all = cc
back true true true true true true true true true true true true true true true true true true true true false at t1 l1 m1 k1 q1 q2 s1 d1 u1 s i1 r1 nd ad qd rd cl all = cc
back true true true true true true true true true true true true true true true true true true true true true false t1 l1 m1 k1 q1 q2 s1 d1 u1 s i1 r1 nd ad qd rd cl all = cc
back true true true true true true true true true true true true true true true true true true true true true true false l1 m1 k1 q1 q2 s1 d1 u1 s i1 r1 nd ad qd rd cl all = cc
back true true true true true true true true true true true true true true true true true true true true true true true false m1 k1 q1 q2 s1 d1 u1 s i1 r1 nd ad qd rd cl all = cc
back true true true true true true true true true true true true true true true true true true true true true true true true false k1 q1 q2 s1 d1 u1 s i1 r1 nd ad qd rd cl all = cc
back true true true true true true true true true true true true true true true true true true true true true true true true true false q1 q2 s1 d1 u1 s i1 r1 nd ad qd rd cl all = cc
back true true true true true true true true true true true true true true true true true true true true true true true true true true false q2 s1 d1 u1 s i1 r1 nd ad qd rd cl all = cc
back true true true true true true true true true true true true true true true true true true true true true true true true true true true false s1 d1 u1 s i1 r1 nd ad qd rd cl all = cc
back true true true true true true true true true true true true true true true true true true true true true true true true true true true true false d1 u1 s i1 r1 nd ad qd rd cl all = cc
back true true true true true true true true true true true true true true true true true true true true true true true true true true true true true false u1 s i1 r1 nd ad qd rd cl all = cc
back true true true true true true true true true true true true true true true true true true true true true true true true true true true true true true false s i1 r1 nd ad qd rd cl all = cc
back true true true true true true true true true true true true true true true true true true true true true true true true true true true true true true true false i1 r1 nd ad qd rd cl all = cc
back true true true true true true true true true true true true true true true true true true true true true true true true true true true true true true true true false r1 nd ad qd rd cl all = cc
back true true true true true true true true true true true true true true true true true true true true true true true true true true true true true true true true true false nd ad qd rd cl all = cc
back true true true true true true true true true true true true true true true true true true true true true true true true true true true true true true true true true true false ad qd rd cl all = cc
back true true true true true true true true true true true true true true true true true true true true true true true true true true true true true true true true true true true false qd rd cl all = cc
back true true true true true true true true true true true true true true true true true true true true true true true true true true true true true true true true true true true true false rd cl all = cc
back true true true true true true true true true true true true true true true true true true true true true true true true true true true true true true true true true true true true true false cl all = cc
back true true true true true true true true true true true true true true true true true true true true true true true true true true true true true true true true true true true true true true false all = cc
back true true true true true true true true true true true true true true true true true true true true true true true true true true true true true true true true true true true true true true true all = refl

pub regrouped : (c s oE e oN n1 n2 nd oF f1 f2 oA a1 ad at oT t1 oL l1 oM m1 oK k1 oQ qd q1 q2 oS s1 oD d1 oU u1 oI i1 oR r1 rd cl : Bool) → ((c && (s && (((oE && e) && ((oN && (n1 && n2)) && (nd && (oF && (f1 && f2))))) && (((oA && (a1 && (ad && at))) && ((oT && t1) && ((oL && l1) && ((oM && m1) && (oK && k1))))) && (((oQ && (qd && (q1 && q2))) && ((oS && s1) && ((oD && d1) && (oU && u1)))) && ((oI && i1) && (oR && (r1 && rd)))))))) && cl) ≡ (c && ((oE && (oN && (oF && (oA && (oT && (oL && (oM && (oK && (oQ && (oS && (oD && (oU && (oI && oR))))))))))))) && (((e && (n1 && (n2 && (f1 && f2)))) && ((a1 && (at && (t1 && (l1 && (m1 && k1))))) && ((q1 && (q2 && (s1 && (d1 && u1)))) && (s && (i1 && r1))))) && ((nd && (ad && (qd && rd))) && cl))))
regrouped c s oE e oN n1 n2 nd oF f1 f2 oA a1 ad at oT t1 oL l1 oM m1 oK k1 oQ qd q1 q2 oS s1 oD d1 oU u1 oI i1 oR r1 rd cl = both_ways ((c && (s && (((oE && e) && ((oN && (n1 && n2)) && (nd && (oF && (f1 && f2))))) && (((oA && (a1 && (ad && at))) && ((oT && t1) && ((oL && l1) && ((oM && m1) && (oK && k1))))) && (((oQ && (qd && (q1 && q2))) && ((oS && s1) && ((oD && d1) && (oU && u1)))) && ((oI && i1) && (oR && (r1 && rd)))))))) && cl) (c && ((oE && (oN && (oF && (oA && (oT && (oL && (oM && (oK && (oQ && (oS && (oD && (oU && (oI && oR))))))))))))) && (((e && (n1 && (n2 && (f1 && f2)))) && ((a1 && (at && (t1 && (l1 && (m1 && k1))))) && ((q1 && (q2 && (s1 && (d1 && u1)))) && (s && (i1 && r1))))) && ((nd && (ad && (qd && rd))) && cl)))) (forth c s oE e oN n1 n2 nd oF f1 f2 oA a1 ad at oT t1 oL l1 oM m1 oK k1 oQ qd q1 q2 oS s1 oD d1 oU u1 oI i1 oR r1 rd cl) (back c oE oN oF oA oT oL oM oK oQ oS oD oU oI oR e n1 n2 f1 f2 a1 at t1 l1 m1 k1 q1 q2 s1 d1 u1 s i1 r1 nd ad qd rd cl)
